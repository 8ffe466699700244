-- The letters of a voice's cells in a bar: S where a note starts, H where it is held, R for a rest.
use Rattle.std.specs.Prelude.{ℕ, ◌+◌, ◌-◌, ◌*◌, List, [], ◌∷◌, map, take, drop, slice_index_or}
use Rattle.fux_grid.specs.declared.cell.Cell.{Cell}
use Rattle.fux_grid.specs.Cells.{cell_in}
use Rattle.fux_grid.specs.Shapes.{letter_of}

-- the letters of a voice in these columns
abbrev pub letters_of : ℕ → List (List Cell) → List ℕ
letters_of v = map (λ col. letter_of (cell_in col v))

-- the columns of a bar, counted from 1, or as many of them as a list has
abbrev pub bar_columns : List (List Cell) → ℕ → List (List Cell)
bar_columns s bar = take 8 (drop (8 * (bar - 1)) s)

-- the column at a place, and up to seven columns after it
abbrev pub bar_from : List (List Cell) → ℕ → List (List Cell)
bar_from s i = slice_index_or s i [] ∷ take 7 (drop (i + 1) s)
