use Rattle.std.proofs.Common.{◌≡◌, ℕ, ◌*◌, ◌/◌, ◌<◌, [], slice_index_or}
use Rattle.fux_grid.specs.Cells.{cell_in}
use Rattle.fux_grid.specs.Grid.{items_of}
use Rattle.species_space.proofs.blocks.keeps_cell.Given as goal

-- the columns so far have the cell of the first column of their block
abbrev pub invariant-loop-k : goal.invariant-loop-k
invariant-loop-k l = (j : ℕ) → j < l.k → cell_in (slice_index_or (items_of l.columns) j []) l.v
    ≡ cell_in (slice_index_or (items_of l.columns) (j / l.length * l.length) []) l.v
