use Rattle.std.proofs.Common.{ℕ, ◌<◌, [], slice_index_or}
use Rattle.fux_grid.specs.Grid.{items_of}
use Rattle.species_space.specs.Blocks.{IsOnlyHolds}
use Rattle.species_space.proofs.blocks.held_first.Given as goal

-- the columns so far have holds alone
abbrev pub invariant-loop-k : goal.invariant-loop-k
invariant-loop-k l = (j : ℕ) → j < l.k → IsOnlyHolds (slice_index_or (items_of l.columns) j [])
