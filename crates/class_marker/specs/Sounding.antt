-- Which intervals show a break.
use Rattle.std.specs.Prelude.{ℕ, ◌+◌, ◌-◌, ◌==◌, ◌||◌, Bool, List, [], Option, Some, None, slice_index_or, if◌then◌else◌}
use Rattle.fux_pitch.specs.declared.pitch.Pitch.{Pitch}
use Rattle.fux_grid.specs.declared.cell.Cell.{Cell}
use Rattle.fux_grid.specs.declared.exercise.Exercise.{Exercise}
use Rattle.fux_grid.specs.Columns.{sound_at}
use Rattle.rule_law.specs.Terms.{lowest_voice}
use Rattle.class_marker.specs.Notes.{farthest_start, next_start, previous_start, third_start, turning_start}

-- two pitches, where there are both
abbrev pub paired : Option Pitch → Option Pitch → Option (Pitch × Pitch)
paired None q = None
paired (Some p) None = None
paired (Some p) (Some q) = Some (p, q)

-- ---- of two voices

-- the pitches that two voices sound at a column, where both do
abbrev pub both_sound : List (List Cell) → ℕ → ℕ → ℕ → Option (Pitch × Pitch)
both_sound s v w i = paired (sound_at s v i) (sound_at s w i)

-- the column before that counts for two voices: of S18 the beginning of the bar before
abbrev pub earlier_column : ℕ → ℕ → ℕ
earlier_column rule i = if rule == 18 then i - 8 else i - 1

-- what two voices sound first: of S20 at the place itself, else before it
abbrev pub sounded_first : ℕ → List (List Cell) → ℕ → ℕ → ℕ → Option (Pitch × Pitch)
sounded_first rule s v w i =
    if rule == 20 then both_sound s v w i
    else (if i == 0 then None
    else both_sound s v w (earlier_column rule i))

-- and then: of S20 where the held note goes on, else at the place
abbrev pub sounded_then : ℕ → List (List Cell) → ℕ → ℕ → ℕ → Option (Pitch × Pitch)
sounded_then rule s v w i = if rule == 20 then both_sound s v w (i + 4) else both_sound s v w i

-- ---- of one voice

-- the pitches that a voice sounds at two columns
abbrev pub sung : List (List Cell) → ℕ → ℕ → ℕ → Option (Pitch × Pitch)
sung s v from to = paired (sound_at s v from) (sound_at s v to)

-- what it sings first: of S7 the leap, of S25 the move to the quaver
abbrev pub sung_first : ℕ → List (List Cell) → ℕ → ℕ → Option (Pitch × Pitch)
sung_first rule s v i =
    if rule == 7 then sung s v (third_start s v i) (previous_start s v i)
    else (if rule == 25 then sung s v (previous_start s v i) i
    else None)

-- rules of the move to the note at the place; that of the end of a cantus has the number 33
abbrev pub is_of_a_move : ℕ → Bool
is_of_a_move rule = (rule == 4) || (rule == 5) || (rule == 7) || (rule == 26) || (rule == 33)

-- what the lowest voice of a column and another one sound; where that is the lowest itself, the
-- cantus and that one
abbrev pub with_lowest : Exercise → List (List Cell) → ℕ → ℕ → Option ℕ → Option (Pitch × Pitch)
with_lowest ex s v i None = None
with_lowest ex s v i (Some w) =
    if w == v then both_sound s v ex.cantus_voice i else both_sound s w v i

-- and then, or alone: the move to the note at the place; of S6 both leaps as one; of S8 from the
-- turning note before to this one; of S9 the span; of S25 the move from the quaver; of S12 what is
-- sounded
abbrev pub sung_then : Exercise → ℕ → List (List Cell) → ℕ → ℕ → Option (Pitch × Pitch)
sung_then ex rule s v i =
    if is_of_a_move rule then sung s v (previous_start s v i) i
    else (if rule == 6 then sung s v (third_start s v i) i
    else (if rule == 8 then sung s v (turning_start s v i) (previous_start s v i)
    else (if rule == 9 then sung s v (farthest_start s v i) i
    else (if rule == 25 then sung s v i (next_start s v i)
    else (if rule == 12 then with_lowest ex s v i (lowest_voice (slice_index_or s i []))
    else None)))))
