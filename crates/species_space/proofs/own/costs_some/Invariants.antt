-- What is known of the columns so far.
use Rattle.std.proofs.Common.{ℕ, ◌<◌, [], slice_index_or}
use Rattle.fux_grid.specs.Grid.{items_of}
use Rattle.fux_judge.specs.Links.{IsOwnCost}
use Rattle.species_space.proofs.own.costs_some.Given as goal

-- their own tolls cost none of them anything
abbrev pub invariant-loop-k : goal.invariant-loop-k
invariant-loop-k l =
    (j : ℕ) → j < l.k → IsOwnCost l.exercise l.sheet l.i (slice_index_or (items_of l.columns) j []) 0
