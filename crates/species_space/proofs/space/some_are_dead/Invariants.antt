-- What is known of the columns so far.
use Rattle.std.proofs.Common.{ℕ, ◌<◌, [], slice_index_or}
use Rattle.fux_grid.specs.Grid.{items_of}
use Rattle.fux_judge.specs.Always.{IsSound}
use Rattle.species_space.proofs.space.some_are_dead.Given as goal

-- all are sound
abbrev pub invariant-loop-k : goal.invariant-loop-k
invariant-loop-k l = (j : ℕ) → j < l.k → IsSound l.exercise l.i (slice_index_or (items_of l.columns) j [])
