-- The lines that tell what shows a break: the evidence of a mark.
use Rattle.std.specs.Prelude.{ℕ, ◌+◌, ◌-◌, ◌*◌, List, [], ◌∷◌, ◌++◌, Option, Some, None, codes, length, nat_lt, if◌then◌else◌}
use Rattle.std.specs.List.{flat_map}
use Rattle.std.specs.Option.{option_map_or}
use Rattle.fux_pitch.specs.declared.pitch.Pitch.{Pitch}
use Rattle.fux_grid.specs.declared.cell.Cell.{Cell}
use Rattle.fux_grid.specs.declared.cell.Cell.TheVariants.{Rest, Hold, Start}
use Rattle.fux_grid.specs.declared.cell.Onset.{Onset}
use Rattle.fux_grid.specs.declared.exercise.Exercise.{Exercise}
use Rattle.fux_grid.specs.Columns.{cell_at}
use Rattle.rule_law.specs.Voices.{pair_of, voice_of}
use Rattle.score_marker.specs.declared.mark.Mark.{Mark}
use Rattle.score_marker.specs.Marks.{voices_in}
use Rattle.class_marker.specs.Intervals.{interval_words}
use Rattle.class_marker.specs.Notes.{notes_that_count}
use Rattle.class_marker.specs.Sounding.{sounded_first, sounded_then, sung_first, sung_then}
use Rattle.class_marker.specs.Words.{note_words, voice_name}

-- notes, one after the other
abbrev pub further_notes : List Onset → List ℕ
further_notes notes = flat_map (λ note. codes ", then " ++ note_words note.start note.pitch) notes

abbrev pub notes_words : List Onset → List ℕ
notes_words [] = codes "no note"
notes_words (first ∷ rest) = note_words first.start first.pitch ++ further_notes rest

-- what is told of a cell where a voice rests
abbrev pub rest_words : Cell → List ℕ
rest_words Rest = codes "; it rests there"
rest_words (Hold p) = []
rest_words (Start p) = []

-- the line of a voice for a break of a rule at a column
unfoldable pub voice_line : Exercise → ℕ → List (List Cell) → ℕ → ℕ → List ℕ
voice_line ex rule s i v =
    codes "    " ++ voice_name ex v ++ codes ": " ++ notes_words (notes_that_count ex rule s v i)
    ++ rest_words (cell_at s v i) ++ 10 ∷ []

-- the lines of the voices of a set, from the lowest
abbrev pub voice_lines : Exercise → ℕ → List (List Cell) → ℕ → ℕ → List ℕ
voice_lines ex rule s i voices = flat_map (voice_line ex rule s i) (voices_in voices)

-- a line of one interval, and one of two
unfoldable pub interval_line : Pitch × Pitch → List ℕ
interval_line sounding = codes "    " ++ interval_words sounding.0 sounding.1 ++ 10 ∷ []

unfoldable pub intervals_line : Pitch × Pitch → Pitch × Pitch → List ℕ
intervals_line first next =
    codes "    " ++ interval_words first.0 first.1
    ++ codes ", then " ++ interval_words next.0 next.1 ++ 10 ∷ []

-- the line of the intervals that there are
abbrev pub sounding_line : Option (Pitch × Pitch) → Option (Pitch × Pitch) → List ℕ
sounding_line None None = []
sounding_line (Some first) None = interval_line first
sounding_line None (Some next) = interval_line next
sounding_line (Some first) (Some next) = intervals_line first next

-- of two voices
abbrev pub line_of_two : ℕ → List (List Cell) → ℕ → ℕ → ℕ → List ℕ
line_of_two rule s i v w = sounding_line (sounded_first rule s v w i) (sounded_then rule s v w i)

-- of one voice
abbrev pub line_of_one : Exercise → ℕ → List (List Cell) → ℕ → ℕ → List ℕ
line_of_one ex rule s i v = sounding_line (sung_first rule s v i) (sung_then ex rule s v i)

-- of a set of one voice
abbrev pub single_line : Exercise → ℕ → List (List Cell) → ℕ → ℕ → List ℕ
single_line ex rule s i voices =
    option_map_or (λ v. line_of_one ex rule s i v) (voice_of voices) []

-- of a set of one voice or two
abbrev pub set_line : Exercise → ℕ → List (List Cell) → ℕ → ℕ → List ℕ
set_line ex rule s i voices =
    option_map_or (λ pair. line_of_two rule s i pair.0 pair.1) (pair_of voices)
    (single_line ex rule s i voices)

-- ---- of a mark

-- the column of a mark's place
abbrev pub column_of : Mark → ℕ
column_of mark = 8 * (mark.bar - 1) + mark.slot

-- the lines of what shows a break at a column
abbrev pub evidence_at : Exercise → List (List Cell) → ℕ → Mark → List ℕ
evidence_at ex s i mark =
    voice_lines ex mark.rule s i mark.voices.bits ++ set_line ex mark.rule s i mark.voices.bits

-- the evidence of a mark: nothing where its place is beyond the columns
abbrev pub evidence : Exercise → List (List Cell) → Mark → List ℕ
evidence ex s mark =
    if nat_lt (column_of mark) (length s) then evidence_at ex s (column_of mark) mark else []
