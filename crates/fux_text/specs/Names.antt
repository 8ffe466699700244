-- Which mode or pitch a word names.
use Rattle.std.specs.Prelude.{ℕ, pos, negsuc, List, [], ◌∷◌, Option, find}
use Rattle.std.specs.List.{filter_map, flat_map, range_with_len}
use Rattle.fux_pitch.specs.Modes.{mode_name}
use Rattle.fux_pitch.specs.declared.mode.Mode.{Mode}
use Rattle.fux_pitch.specs.declared.mode.Mode.TheVariants.{Dorian, Phrygian, Lydian, Mixolydian, Aeolian, Ionian}
use Rattle.fux_pitch.specs.declared.pitch.Pitch.{Pitch}
use Rattle.fux_pitch.specs.Names.{name_of}
use Rattle.fux_pitch.specs.Pitch.{pitch_at}
use Rattle.text_lines.specs.Reading.{same_text}

-- the one of these that has this name
abbrev pub named : {A : Type 0} → (A → List ℕ) → List A → List ℕ → Option A
named name all text = find (λ x. same_text (name x) text) all

-- the mode of a name
abbrev pub modes : List Mode
modes = Dorian ∷ Phrygian ∷ Lydian ∷ Mixolydian ∷ Aeolian ∷ Ionian ∷ []

unfoldable pub mode_named : List ℕ → Option Mode
mode_named = named mode_name modes

-- the pitches of a degree
abbrev pub pitches_on : ℕ → List Pitch
pitches_on degree = filter_map (pitch_at degree) (negsuc 0 ∷ pos 0 ∷ pos 1 ∷ [])

-- all pitches
unfoldable pub pitches : List Pitch
pitches = flat_map pitches_on (range_with_len 0 64)

-- the pitch of a name
unfoldable pub pitch_named : List ℕ → Option Pitch
pitch_named = named name_of pitches
