-- Orderly lists of columns: no voice leaves the shapes of its bars.
use Rattle.std.specs.Prelude.{ℕ, ◌-◌, ◌*◌, ◌<◌, ◌≤◌, List, length, IsTrue}
use Rattle.fux_grid.specs.declared.cell.Cell.{Cell}
use Rattle.fux_grid.specs.declared.exercise.Exercise.{Exercise}
use Rattle.fux_grid.specs.Exercises.{IsFree, species_in}
use Rattle.fux_grid.specs.Letters.{letters_of, bar_columns}
use Rattle.fux_grid.specs.Shapes.{shapes_in, begins_shape}

-- the shapes that a voice may have in a bar, counted from 1
abbrev pub voice_shapes : Exercise → ℕ → ℕ → List (List ℕ)
voice_shapes ex v bar = shapes_in (species_in ex v) bar ex.bars

-- a bar, counted from 1, of which the list has a column at least
abbrev pub HasBegun : List (List Cell) → ℕ → Type 0
HasBegun p bar = (1 ≤ bar) × (8 * (bar - 1) < length p)

-- in each bar that has begun, the letters of each free voice begin a shape
abbrev pub IsOrderly : Exercise → List (List Cell) → Type 0
IsOrderly ex p = (v bar : ℕ) → IsFree ex v → HasBegun p bar
    → IsTrue (begins_shape (voice_shapes ex v bar) (letters_of v (bar_columns p bar)))
