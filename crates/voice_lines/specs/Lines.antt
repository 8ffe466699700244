-- Lines of cells, one for each voice, the lowest first, and what they are as columns.
use Rattle.std.specs.Prelude.{ℕ, ◌-◌, IsTrue, ⊤, List, [], ◌∷◌, length, map, replicate}
use Rattle.std.specs.List.{flat_map, range_with_len}
use Rattle.fux_pitch.specs.declared.pitch.Pitch.{Pitch}
use Rattle.fux_grid.specs.declared.cell.Cell.{Cell}
use Rattle.fux_grid.specs.declared.cell.Cell.TheVariants.{Hold, Start}
use Rattle.fux_grid.specs.Cells.{cell_follows, cell_in}
use Rattle.fux_grid.specs.Grid.{Grid}

-- the cells of a note of so many slots: it starts, and is held
abbrev pub note_cells : Pitch → ℕ → List Cell
note_cells p len = Start p ∷ replicate (len - 1) (Hold p)

-- the cells of a cantus: a whole note in each bar
abbrev pub cantus_cells : List Pitch → List Cell
cantus_cells cantus = flat_map (λ p. note_cells p 8) cantus

-- each cell of a line may follow the one before it
abbrev pub LineFollows : Cell → List Cell → Type 0
LineFollows before [] = ⊤
LineFollows before (c ∷ cells) = IsTrue (cell_follows before c) × LineFollows c cells

-- the column of lines of cells at a slot
abbrev pub column_of : List (List Cell) → ℕ → List Cell
column_of lines i = map (λ cells. cell_in cells i) lines

-- the first n columns of lines of cells
abbrev pub score_of : ℕ → List (List Cell) → Grid
score_of n lines = record { voices = length lines; columns = map (column_of lines) (range_with_len 0 n) }
