use Rattle.std.proofs.Common.{◌∙◌}
use Rattle.cantus_space.proofs.NodeLemmas.{top_by}
use Rattle.cantus_space.proofs.node.CantusNode.top_with.Goals as goal

pub returns : goal.returns
returns c = λ behind kept.
    c.top_after.ensures ∙ top_by behind c.args.self.now kept c.args.pitch c.semitone.result c.semitone.ensures.value
