-- How far the voices so far keep their cells.
use Rattle.std.proofs.Common.{◌≡◌, ◌<◌, ◌≤◌, ℕ, [], length, slice_index_or}
use Rattle.fux_grid.specs.Cells.{cell_in}
use Rattle.species_space.specs.Blocks.{columns_seen}
use Rattle.species_space.proofs.blocks.MenuView.end_of_agreement.Given as goal

abbrev pub invariant-loop-v : goal.invariant-loop-v
invariant-loop-v l = record {
  onward : l.k < l.end;
  within : l.end ≤ length (columns_seen l.self);
  cells : (u : ℕ) → u < l.v → (j : ℕ) → l.k ≤ j → j < l.end
      → cell_in (slice_index_or (columns_seen l.self) j []) u
      ≡ cell_in (slice_index_or (columns_seen l.self) l.k []) u;
}
