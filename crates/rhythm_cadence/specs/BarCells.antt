-- The cells of one voice in the bar before a column.
use Rattle.std.specs.Prelude.{ℕ, ◌-◌, List, [], ◌∷◌}
use Rattle.fux_grid.specs.declared.cell.Cell.{Cell}
use Rattle.fux_grid.specs.Columns.{cell_at}

-- its cells in the eight columns before column i, from the newest to the oldest
abbrev pub bar_behind : List (List Cell) → ℕ → ℕ → List Cell
bar_behind s v i =
    cell_at s v (i - 1) ∷ cell_at s v (i - 2) ∷ cell_at s v (i - 3) ∷ cell_at s v (i - 4)
    ∷ cell_at s v (i - 5) ∷ cell_at s v (i - 6) ∷ cell_at s v (i - 7) ∷ cell_at s v (i - 8) ∷ []
