-- Where in a setting a column stands.
use Rattle.std.specs.Prelude.{ℕ, ◌==◌, Bool, ◌&&◌, nat_le, nat_lt, List, [], slice_index_or}
use Rattle.fux_grid.specs.declared.cell.Cell.{Cell}
use Rattle.fux_grid.specs.declared.exercise.Exercise.{Exercise}
use Rattle.fux_grid.specs.Exercises.{bar_of, slot_of}

-- the column begins a bar
abbrev pub begins_bar : ℕ → Bool
begins_bar i = slot_of i == 0

-- it begins a bar that is neither the first nor the last
abbrev pub begins_inner_bar : Exercise → ℕ → Bool
begins_inner_bar ex i = begins_bar i && nat_le 2 (bar_of i) && nat_lt (bar_of i) ex.bars

-- where a bar begins, the first column of the bar before: eight columns back
abbrev pub bar_line_before : List (List Cell) → List Cell
bar_line_before behind = slice_index_or behind 7 []
