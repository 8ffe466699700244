use Rattle.std.proofs.Common.{◌≡◌, ℕ, ◌<◌, [], slice_index_or}
use Rattle.fux_grid.specs.Cells.{cell_in}
use Rattle.species_space.specs.Blocks.{columns_seen}
use Rattle.species_space.proofs.blocks.MenuView.lowest_alike.Given as goal

-- the columns have the same cells so far
abbrev pub invariant-loop-v : goal.invariant-loop-v
invariant-loop-v l = (u : ℕ) → u < l.v → cell_in (slice_index_or (columns_seen l.self) l.j []) u
    ≡ cell_in (slice_index_or (columns_seen l.self) l.k []) u
