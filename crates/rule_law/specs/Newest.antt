-- The newest columns of a list: a column and the three bars before it are kept.
use Rattle.std.specs.Prelude.{◌≡◌, ℕ, ◌+◌, ◌%◌, ◌<◌, ◌≤◌, List, [], ◌∷◌, ◌++◌, length, take, slice_index_or}
use Rattle.fux_grid.specs.declared.cell.Cell.{Cell}
use Rattle.fux_grid.specs.declared.cell.Cell.TheVariants.{Rest}
use Rattle.fux_grid.specs.Columns.{Columns}
use Rattle.rule_law.specs.declared.newest.ColumnCells.{ColumnCells}
use Rattle.rule_law.specs.declared.newest.NewestColumns.{NewestColumns}

-- four voices that rest
abbrev pub silent : ColumnCells
silent = record { cells = Rest ∷ Rest ∷ Rest ∷ Rest ∷ [] }

-- what is kept of column i, of so many voices
abbrev pub kept_column : ℕ → NewestColumns → ℕ → List Cell
kept_column voices kept i = take voices (slice_index_or kept.columns (i % 32) silent).cells

-- the columns of the list, the oldest first, are so many, and the newest 25 are kept
pub record AreNewestOf (voices : ℕ) (s : List (List Cell)) (kept : NewestColumns) : Type 0 where
  pub count : kept.len ≡ length s
  pub columns : (i : ℕ) → i < length s → length s ≤ i + 25 → kept_column voices kept i ≡ slice_index_or s i []

-- of whatever list the first are the newest columns, the others are those of the list with this
-- column more
abbrev pub GrowBy : List Cell → NewestColumns → NewestColumns → Type 0
GrowBy col kept grown =
    (voices : ℕ) (s : Columns) → voices ≤ 4 → length col ≡ voices
    → AreNewestOf voices s kept → AreNewestOf voices (s ++ col ∷ []) grown
