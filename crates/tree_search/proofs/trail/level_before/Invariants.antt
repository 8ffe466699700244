use Rattle.std.proofs.Common.{◌≤◌}
use Rattle.tree_search.proofs.trail.level_before.Given as goal

abbrev pub invariant-loop-level : goal.invariant-loop-level
invariant-loop-level g l = record { up : l.level ≤ l.trail.level }

abbrev pub decreases-loop-level : goal.decreases-loop-level
decreases-loop-level g l = l.level
