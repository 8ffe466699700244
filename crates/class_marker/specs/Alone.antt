-- The cantus firmus alone: the columns in which no other voice sounds.
use Rattle.std.specs.Prelude.{ℕ, ◌*◌, ◌==◌, List, [], if◌then◌else◌, map}
use Rattle.std.specs.List.{range_with_len}
use Rattle.fux_grid.specs.declared.cell.Cell.{Cell}
use Rattle.fux_grid.specs.declared.exercise.Exercise.{Exercise}
use Rattle.fux_grid.specs.Grid.{Grid}
use Rattle.voice_lines.specs.Lines.{cantus_cells, score_of}

-- the cells of a voice: those of the cantus, or none
abbrev pub lone_line : Exercise → ℕ → List Cell
lone_line ex v = if v == ex.cantus_voice then cantus_cells ex.cantus else []

abbrev pub lone_lines : Exercise → List (List Cell)
lone_lines ex = map (lone_line ex) (range_with_len 0 ex.voices)

-- the columns
abbrev pub lone_score : Exercise → Grid
lone_score ex = score_of (8 * ex.bars) (lone_lines ex)
