-- What is open of a bar's shapes behind a column.
use Rattle.std.specs.Prelude.{ℕ, ◌+◌, ◌==◌, Bool, not, ◌&&◌, List, Some, None, length, if◌then◌else◌}
use Rattle.fux_grid.specs.declared.cell.Cell.{Cell}
use Rattle.fux_grid.specs.declared.exercise.Exercise.{Exercise}
use Rattle.fux_grid.specs.Cells.{cell_in}
use Rattle.fux_grid.specs.Exercises.{species_in}
use Rattle.rule_law.specs.Bars.{begins_bar}
use Rattle.rhythm_cadence.specs.Parts.{shapes_after, shapes_begun}
use Rattle.open_ends.specs.declared.shapes.OpenShapes.{OpenShapes}
use Rattle.open_ends.specs.Parts.{Step, Waits}

-- the species voice goes by the fifth species: in the others the slot alone tells nearly all of a
-- bar's shape
abbrev pub is_florid : Exercise → Bool
is_florid ex = species_in ex ex.species_voice == 5

-- no shape is open
abbrev pub nothing : OpenShapes
nothing = record { possible = 0 }

-- what is open of the species voice behind some columns: the shapes that the letters of its newest
-- bar begin, while that bar isn't whole
abbrev pub open_in : Waits OpenShapes
open_in ex keeps p = record {
  possible = if is_florid ex && not (begins_bar (length p)) then shapes_begun ex ex.species_voice p else 0;
}

-- the shapes that are left with one column more
abbrev pub shapes_left : Exercise → ℕ → OpenShapes → List Cell → ℕ
shapes_left ex i before now = shapes_after ex ex.species_voice i before.possible (cell_in now ex.species_voice)

-- a column leaves every shape, and so it breaks S3 in every setting that goes on so
abbrev pub leaves_all : Exercise → ℕ → OpenShapes → List Cell → Bool
leaves_all ex i before now = is_florid ex && (shapes_left ex i before now == 0)

-- what is open behind one column more
abbrev pub still_open : Exercise → ℕ → OpenShapes → List Cell → OpenShapes
still_open ex i before now = record {
  possible = if is_florid ex && not (begins_bar (i + 1)) then shapes_left ex i before now else 0;
}

-- the same; none where the column leaves every shape
abbrev pub open_after : Step OpenShapes
open_after ex keeps i kept before now = if leaves_all ex i kept now then None else Some (still_open ex i kept now)
