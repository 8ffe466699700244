-- Lists of all columns of an exercise.
use Rattle.std.specs.Prelude.{ℕ, ◌+◌, Bool, nat_le, List, length}
use Rattle.fux_grid.specs.declared.cell.Cell.{Cell}
use Rattle.fux_grid.specs.declared.exercise.Exercise.{Exercise}
use Rattle.fux_grid.specs.Exercises.{columns_in}

-- column i and those after it are the last ones of the exercise
abbrev pub is_whole : Exercise → ℕ → List (List Cell) → Bool
is_whole ex i ahead = nat_le (columns_in ex) (i + 1 + length ahead)
