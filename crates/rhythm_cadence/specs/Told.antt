-- What is read of the newest columns and of the shapes of the newest bar, which a state keeps:
-- breaks of S3, S22 and S25.
use Rattle.std.specs.Prelude.{◌≡◌, ℕ, ◌^◌, ◌==◌, ◌&&◌, Bool, true, List, [], ◌∷◌, ◌++◌, length, nat_lt}
use Rattle.fux_grid.specs.declared.cell.Cell.{Cell}
use Rattle.fux_grid.specs.declared.exercise.Exercise.{Exercise}
use Rattle.fux_grid.specs.Cells.{cell_in}
use Rattle.fux_grid.specs.Columns.{Columns}
use Rattle.rule_law.specs.Newest.{AreNewestOf}
use Rattle.rule_law.specs.Places.{reading_of}
use Rattle.rule_law.specs.Prefixes.{GoesOn}
use Rattle.rule_law.specs.Rulebooks.{IsAmong, newly_breaks}
use Rattle.rule_law.specs.Voices.{is_free}
use Rattle.rule_law.specs.declared.newest.NewestColumns.{NewestColumns}
use Rattle.rhythm_cadence.specs.declared.part.BarShapes.{BarShapes}
use Rattle.rhythm_cadence.specs.Book.{rule_row, shape_rule}
use Rattle.rhythm_cadence.specs.Parts.{IsShapesOf, newest_start, shapes_after, shapes_begun}
use Rattle.rhythm_cadence.specs.Rows.{broken_in}

-- a set of voices has left the shapes of the newest bar: S3 is broken where that bar begins
abbrev pub have_left : Exercise → ℕ → Columns → Bool
have_left ex voices p = reading_of (broken_in 3 ex voices) p (newest_start p)

-- behind a list a voice has no shape left in its bar with this cell, if it is there and free
abbrev pub leaves_by_cell : Exercise → ℕ → Columns → Cell → Bool
leaves_by_cell ex v p now =
    nat_lt v ex.voices && (is_free ex v && (shapes_after ex v (length p) (shapes_begun ex v p) now == 0))

-- any column at place i in which the voice has this cell settles a break of S3 for the voice
abbrev pub LeavesShapes : Exercise → BarShapes → ℕ → ℕ → Cell → Type 0
LeavesShapes ex part i v cell =
    (p : Columns) (col : List Cell) → length p ≡ i → IsShapesOf ex p part → cell_in col v ≡ cell
    → newly_breaks shape_rule ex (2 ^ v) p col (newest_start (p ++ col ∷ [])) ≡ true

-- at one of a late rule's places: whether the last column, which comes after an orderly prefix,
-- settles a break of it there
abbrev pub TellsBreak : ℕ → Exercise → ℕ → BarShapes → NewestColumns → ℕ → Bool → Type 0
TellsBreak rule ex voices part kept place told =
    (p : Columns) (col : List Cell) → IsShapesOf ex (p ++ col ∷ []) part
    → AreNewestOf ex.voices (p ++ col ∷ []) kept → GoesOn ex p (col ∷ [])
    → IsAmong ((rule_row rule).first ex (length p)) ((rule_row rule).count ex (length p)) place
    → told ≡ newly_breaks (rule_row rule) ex voices p col place
