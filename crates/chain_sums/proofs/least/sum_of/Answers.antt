use Rattle.std.proofs.Common.{subst}
use Rattle.fux_grid.specs.Columns.{ColumnFollows}
use Rattle.chain_sums.specs.Chains.{cells_of, given}
use Rattle.chain_sums.proofs.LeastLemmas.{given-cells, sum_of_both}
use Rattle.chain_sums.proofs.least.sum_of.Goals as goal

pub returns-clause-value : goal.returns-clause-value
returns-clause-value g c =
    let follows : ColumnFollows (cells_of (given c.args.prev)) c.args.next.now.items =
    subst (λ cells. ColumnFollows cells c.args.next.now.items) (given-cells c.args.prev)
    (c.follows.ensures.0 c.if-not-follows.false) in
    λ x. rw c.plus.ensures.value
    (sum_of_both (g.L.Links.chains c.args.links.now) c.args.i (given c.args.prev) c.args.next.now.items c.args.rest
    c.cost-own.result follows c.cost-own.ensures.value x)
