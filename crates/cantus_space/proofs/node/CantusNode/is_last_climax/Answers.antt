use Rattle.std.proofs.lemmas.Bool.{ne_eqb}
use Rattle.cantus_space.proofs.NodeLemmas.{last_by}
use Rattle.cantus_space.proofs.node.CantusNode.is_last_climax.Goals as goal

pub returns-else-ahead-eq0 : goal.returns-else-ahead-eq0
returns-else-ahead-eq0 c = λ behind kept there.
    last_by c.args.plan.now behind c.args.self.now kept c.semitone.result c.args.ahead c.semitone.ensures.value there
    (ne_eqb c.args.ahead 0 c.if-ahead-eq0.false)
