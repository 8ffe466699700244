-- Which voice of a file is which voice of the lesson.
use Rattle.std.specs.Prelude.{ℕ, ◌+◌, ◌-◌, ◌==◌, ◌&&◌, Bool, true, false, List, [], ◌∷◌, filter, length, nat_lt, Option, Some, None, slice_index_or, if◌then◌else◌}
use Rattle.std.specs.List.{range_with_len}
use Rattle.std.specs.Option.{unwrap_or}
use Rattle.fux_pitch.specs.declared.pitch.Pitch.{Pitch}
use Rattle.fux_grid.specs.declared.exercise.Exercise.{Exercise}
use Rattle.smf_score.specs.declared.placed.Placed.{Placed}
use Rattle.smf_score.specs.Written.{midi_key}

-- a cantus sounds in a voice: the keys of its notes are those of the cantus, one after the other
abbrev pub sounds : List Pitch → List Placed → Bool
sounds [] [] = true
sounds [] (note ∷ notes) = false
sounds (pitch ∷ cantus) [] = false
sounds (pitch ∷ cantus) (note ∷ notes) = (midi_key note.pitch == midi_key pitch) && sounds cantus notes

-- the voices in which a cantus sounds, counted from 0
abbrev pub sounding : List Pitch → List (List Placed) → List ℕ
sounding cantus voices =
    filter (λ v. sounds cantus (slice_index_or voices v [])) (range_with_len 0 (length voices))

-- what a list has, where that is one thing
abbrev pub only : {X : Type 0} → List X → Option X
only [] = None
only (x ∷ []) = Some x
only (x ∷ y ∷ xs) = None

-- the voice of the file that is the cantus: the one in which it sounds; where it sounds in none, or
-- in several, the one of its number
abbrev pub cantus_at : Exercise → List (List Placed) → ℕ
cantus_at lesson voices = unwrap_or (only (sounding lesson.cantus voices)) lesson.cantus_voice

-- the number of a voice among those other than one
abbrev pub among_others : ℕ → ℕ → ℕ
among_others one v = if nat_lt v one then v else v - 1

-- the voice of a number among those other than one
abbrev pub other_voice : ℕ → ℕ → ℕ
other_voice one k = if nat_lt k one then k else k + 1

-- of so many voices, the voice of the file that is a voice of the lesson, where one of the file is
-- its cantus: the file's order if the cantus has its place in that; the file's order turned round
-- if the cantus has its place in that; or the cantus moved to its place, and the others in the
-- file's order
abbrev pub voice_in_file : ℕ → ℕ → ℕ → ℕ → ℕ
voice_in_file count cantus found v =
    if found == cantus then v
    else (if found + cantus + 1 == count then count - 1 - v
    else (if v == cantus then found
    else other_voice found (among_others cantus v)))

-- the notes of a voice of the lesson
abbrev pub voice_of : Exercise → List (List Placed) → ℕ → List Placed
voice_of lesson voices v =
    slice_index_or voices (voice_in_file (length voices) lesson.cantus_voice (cantus_at lesson voices) v) []
