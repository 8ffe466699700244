-- Columns in which nothing is held: they follow every column.
use Rattle.std.specs.Prelude.{ℕ, ◌<◌, List, [], length, slice_index_or}
use Rattle.fux_grid.specs.declared.cell.Cell.{Cell}
use Rattle.fux_grid.specs.Columns.{ColumnFollows}

-- a column follows every column
abbrev pub FollowsAll : List Cell → Type 0
FollowsAll d = (before : List Cell) → ColumnFollows before d

-- and so does each of a menu
abbrev pub AllFollowAll : List (List Cell) → Type 0
AllFollowAll columns = (k : ℕ) → k < length columns → FollowsAll (slice_index_or columns k [])
