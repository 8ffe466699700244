-- What is kept of the columns so far, and room for the rest.
use Rattle.std.proofs.Common.{◌≡◌, ℕ, ◌<◌, [], length, slice_index_or, vec_capacity}
use Rattle.fux_grid.specs.Grid.{items_of}
use Rattle.fux_judge.specs.Links.{IsOwnCost}
use Rattle.species_space.proofs.own.own_costs.Given as goal

-- what its own tolls cost each
abbrev pub invariant-loop-k : goal.invariant-loop-k
invariant-loop-k l = record {
  room : vec_capacity l.costs ≡ l.count;
  counted : length l.costs.items ≡ l.k;
  kept : (j : ℕ) → j < l.k → IsOwnCost l.exercise l.sheet l.i (slice_index_or (items_of l.columns) j [])
      (slice_index_or l.costs.items j 0);
}
