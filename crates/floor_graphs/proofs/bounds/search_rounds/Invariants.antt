use Rattle.std.specs.Prelude.{◌≤◌}
use Rattle.tree_search.specs.Answer.{BoundsLeaves}
use Rattle.floor_graphs.proofs.bounds.search_rounds.Given as goal

abbrev pub invariant-loop-round : goal.invariant-loop-round
invariant-loop-round g l =
    BoundsLeaves (g.S.Space.live l.space) (g.S.Space.height l.space) l.low × ((l.bound ≤ l.low)
    × (l.purse.left ≤ l.initial.purse.left))
