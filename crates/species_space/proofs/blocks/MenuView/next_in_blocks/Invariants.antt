-- What the walk over a menu keeps.
use Rattle.std.proofs.Common.{length, ◌-◌, ◌<◌, ◌≤◌, ℕ, [], slice_index_or}
use Rattle.fux_grid.specs.Columns.{ColumnFollows}
use Rattle.species_space.specs.Blocks.{columns_seen}
use Rattle.species_space.proofs.blocks.MenuView.next_in_blocks.Given as goal

-- no column that was passed may follow
abbrev pub invariant-loop-k : goal.invariant-loop-k
invariant-loop-k l = record {
  onward : l.from ≤ l.k;
  passed : (j : ℕ) → l.from ≤ j → j < l.k → j < length (columns_seen l.self)
      → ColumnFollows l.before (slice_index_or (columns_seen l.self) j []) → ⊥;
}

abbrev pub decreases-loop-k : goal.decreases-loop-k
decreases-loop-k l = length (columns_seen l.self) - l.k
