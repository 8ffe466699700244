-- Which cells a voice of a setting may have, where notes are given.
use Rattle.std.specs.Prelude.{◌*◌, true}
use Rattle.std.specs.List.{list_all, range_with_len}
use Rattle.fux_grid.specs.declared.exercise.Exercise.{Exercise}
use Rattle.fux_grid.specs.Cells.{cell_in}
use Rattle.fux_grid.specs.Exercises.{given_at}
use Rattle.fux_grid.specs.Givens.{fits}
use Rattle.fux_text.specs.declared.fitting.Asked.{Asked}
use Rattle.fux_text.specs.declared.fitting.Asked.TheVariants as asked
use Rattle.fux_text.specs.Sing.{Fit}

-- each cell of a voice fits what the exercise gives of it
unfoldable pub line_fits : Exercise → Fit
line_fits ex v cells = list_all (λ i. fits (given_at ex i v) (cell_in cells i)) (range_with_len 0 (8 * ex.bars))

-- any cells will do
abbrev pub any_cells : Fit
any_cells v cells = true

-- what is asked of the cells of a voice
abbrev pub asks : Asked → Exercise → Fit
asks asked.Fitting ex v cells = line_fits ex v cells
asks asked.Nothing ex v cells = any_cells v cells
