use Rattle.std.proofs.Common.{◌∙◌}
use Rattle.cantus_space.proofs.NodeLemmas.{ends_by_node}
use Rattle.cantus_space.proofs.node.CantusNode.least_ends.Goals as goal

pub returns-clause-value : goal.returns-clause-value
returns-clause-value c = λ behind kept.
    c.least_ends.ensures.value
    ∙ ends_by_node behind c.args.self.now kept c.args.plan.now.prices c.args.plan.now.bars
