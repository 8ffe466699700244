-- The toll Q21: a letter that a voice sounds in two alterations within two bars.
use Rattle.std.specs.Prelude.{ℕ, ◌==◌, ◌%◌, Bool, not, ◌&&◌, nat_lt, List}
use Rattle.std.specs.Ordering.{int_eq}
use Rattle.fux_pitch.specs.declared.pitch.Pitch.{Pitch}
use Rattle.fux_pitch.specs.Pitch.{alter_of, degree_of}
use Rattle.fux_grid.specs.declared.cell.Cell.{Cell}
use Rattle.fux_grid.specs.declared.exercise.Exercise.{Exercise}
use Rattle.fux_grid.specs.Cells.{cell_in, pitch_of}
use Rattle.fux_grid.specs.Columns.{cell_at}
use Rattle.rule_law.specs.Growth.{any_below}
use Rattle.rule_law.specs.Places.{Row}
use Rattle.rule_law.specs.Terms.{started_pitch}
use Rattle.rule_law.specs.Voices.{count_free}
use Rattle.rhythm_cadence.specs.Rows.{holds_of_pitch}

-- two pitches have one letter, in whatever octaves, and different alterations
abbrev pub is_inflection : Pitch → Pitch → Bool
is_inflection p q = (degree_of p % 7 == degree_of q % 7) && not (int_eq (alter_of p) (alter_of q))

-- in one of the sixteen newest columns, two bars' time, a voice sounds the letter of a pitch in
-- another alteration
unfoldable pub sounds_otherwise : ℕ → List (List Cell) → Pitch → Bool
sounds_otherwise v behind p = any_below (λ k. holds_of_pitch (is_inflection p) (pitch_of (cell_at behind v k))) 16

-- a note starts of which the voice sounded the letter so within the two bars before
abbrev pub is_inflected : ℕ → List (List Cell) → List Cell → Bool
is_inflected v behind now = holds_of_pitch (sounds_otherwise v behind) (started_pitch (cell_in now v))

-- Q21: in so many free voices
unfoldable pub inflection_toll : Exercise → Row ℕ
inflection_toll ex i behind now ahead = count_free ex (λ v. nat_lt v ex.voices && is_inflected v behind now)
