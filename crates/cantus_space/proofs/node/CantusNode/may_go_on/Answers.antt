use Rattle.std.proofs.Common.{sym, ap, ◌∙◌}
use Rattle.std.specs.Prelude.{not, ◌&&◌}
use Rattle.cantus_space.specs.Nodes.{started}
use Rattle.cantus_space.proofs.NodeLemmas.{comes_by}
use Rattle.cantus_space.proofs.node.CantusNode.may_go_on.Goals as goal

pub returns-then-is_in_pool : goal.returns-then-is_in_pool
returns-then-is_in_pool c = λ behind kept.
    sym (ap (λ b. b && not c.breaks_some_rule.result) c.if-is_in_pool.true)
    ∙ comes_by c.args.plan.now behind c.args.self.now kept c.args.pitch c.is_in_pool.result c.breaks_some_rule.result
    c.requires.room c.is_in_pool.ensures (c.breaks_some_rule.ensures (started behind) kept.notes)
