-- The line of a voice on a sheet.
use Rattle.std.specs.Prelude.{ℕ, zero, suc, ◌*◌, ◌==◌, List, map, if◌then◌else◌}
use Rattle.std.specs.List.{flat_map, range_with_len}
use Rattle.std.specs.Option.{option_map_or}
use Rattle.fux_pitch.specs.declared.pitch.Pitch.{Pitch}
use Rattle.fux_grid.specs.declared.cell.Cell.{Cell}
use Rattle.fux_grid.specs.declared.cell.Cell.TheVariants as cell
use Rattle.fux_grid.specs.declared.exercise.Exercise.{Exercise}
use Rattle.fux_grid.specs.declared.given.Given.{Given}
use Rattle.fux_grid.specs.declared.given.Given.TheVariants.{Blank, Rest, Tied, Hold, Start}
use Rattle.fux_grid.specs.Cells.{cell_in}
use Rattle.fux_grid.specs.Exercises.{cantus_cell, given_at}

-- what sounds in a cell goes on
abbrev pub held_on : Cell → Cell
held_on cell.Rest = cell.Rest
held_on (cell.Hold p) = cell.Hold p
held_on (cell.Start p) = cell.Hold p

-- what stands on a sheet for what is given, behind a cell: what is left blank is a rest, and a tie
-- goes on with what sounds
abbrev pub sheet_cell : Given → Cell → Cell
sheet_cell Blank before = cell.Rest
sheet_cell Rest before = cell.Rest
sheet_cell Tied before = held_on before
sheet_cell (Hold p) before = cell.Hold p
sheet_cell (Start p) before = cell.Start p

-- the line of a voice of a setting
abbrev pub sung_line : List (List Cell) → ℕ → List Cell
sung_line columns v = map (λ col. cell_in col v) columns

-- a bar of the cantus
abbrev pub cantus_bar : Pitch → List Cell
cantus_bar p = map (λ slot. cantus_cell slot p) (range_with_len 0 8)

-- the line of a cantus: each pitch fills a bar
abbrev pub cantus_line : List Pitch → List Cell
cantus_line cantus = flat_map cantus_bar cantus

-- the last of so many cells of a free voice without a setting, a rest for none
abbrev pub given_cell : Exercise → ℕ → ℕ → Cell
given_cell ex v zero = cell.Rest
given_cell ex v (suc i) = sheet_cell (given_at ex i v) (given_cell ex v i)

-- the line of a free voice without a setting: what is given, and rests
abbrev pub given_line : Exercise → ℕ → List Cell
given_line ex v = map (λ i. given_cell ex v (suc i)) (range_with_len 0 (8 * ex.bars))

-- the line of a voice without a setting
abbrev pub unset_line : Exercise → ℕ → List Cell
unset_line ex v = if v == ex.cantus_voice then cantus_line ex.cantus else given_line ex v

-- the line of a voice of an exercise: of its setting, where it has one
abbrev pub line_of : Exercise → ℕ → List Cell
line_of ex v = option_map_or (λ score. sung_line score.columns v) ex.setting (unset_line ex v)
