-- The ranges of the voices of placed notes.
use Rattle.std.specs.Prelude.{ℕ, suc, ◌==◌, ◌≤◌, All, List, [], ◌∷◌, ◌++◌, Option, Some, None, length, nat_le, if◌then◌else◌}
use Rattle.std.specs.Option.{option_to_list}
use Rattle.fux_pitch.specs.declared.pitch.Pitch.{Pitch}
use Rattle.fux_grid.specs.declared.exercise.RangeLine.{RangeLine}
use Rattle.smf_score.specs.declared.placed.Placed.{Placed}
use Rattle.smf_score.specs.Written.{midi_key}

abbrev pub lower : Pitch → Pitch → Pitch
lower a b = if nat_le (midi_key a) (midi_key b) then a else b

abbrev pub higher : Pitch → Pitch → Pitch
higher a b = if nat_le (midi_key a) (midi_key b) then b else a

-- the ends of a range with one pitch more
abbrev pub low_with : Pitch → Option RangeLine → Pitch
low_with p None = p
low_with p (Some line) = lower p line.low

abbrev pub high_with : Pitch → Option RangeLine → Pitch
high_with p None = p
high_with p (Some line) = higher p line.high

-- a voice's range with one pitch more
abbrev pub widened : ℕ → Pitch → Option RangeLine → RangeLine
widened v p o = record { voice = v; low = low_with p o; high = high_with p o; bars = None }

-- the range of the notes of a voice from the lowest to the highest pitch
abbrev pub range_in : ℕ → List Placed → Option RangeLine
range_in v [] = None
range_in v (note ∷ notes) = Some (widened v note.pitch (range_in v notes))

-- the range of a voice, but for the cantus
abbrev pub free_range : ℕ → ℕ → List Placed → List RangeLine
free_range cantus v notes = if v == cantus then [] else option_to_list (range_in v notes)

-- the ranges of voices from one on, without the cantus
unfoldable pub ranges_in : ℕ → ℕ → List (List Placed) → List RangeLine
ranges_in cantus v [] = []
ranges_in cantus v (notes ∷ voices) = free_range cantus v notes ++ ranges_in cantus (suc v) voices

-- each voice has a note
abbrev pub HaveNotes : List (List Placed) → Type 0
HaveNotes voices = All (λ notes. 1 ≤ length notes) voices
