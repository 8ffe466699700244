-- The pitches that keys are spelled as.
use Rattle.std.specs.Prelude.{ℕ, ◌+◌, ◌-◌, ◌*◌, ◌/◌, ◌%◌, ℤ, pos, negsuc, List, [], ◌∷◌, slice_index_or, Option}
use Rattle.fux_pitch.specs.Pitch.{pitch_at}
use Rattle.fux_pitch.specs.declared.pitch.Pitch.{Pitch}

-- the letters and the alterations of the twelve keys of an octave: C, C#, D, Eb, E, F, F#, G, G#,
-- A, Bb, B
abbrev pub octave_spellings : List (ℕ × ℤ)
octave_spellings =
    (0, pos 0) ∷ (0, pos 1) ∷ (1, pos 0) ∷ (2, negsuc 0) ∷ (2, pos 0) ∷ (3, pos 0)
    ∷ (3, pos 1) ∷ (4, pos 0) ∷ (4, pos 1) ∷ (5, pos 0) ∷ (6, negsuc 0) ∷ (6, pos 0) ∷ []

-- the letter and the alteration of a key that lies so many semitones above a C
abbrev pub class_spelling : ℕ → ℕ × ℤ
class_spelling class = slice_index_or octave_spellings class (0, pos 0)

-- the pitch that a key is spelled as, where a pitch has this key; the octave of C0 begins at key 12
unfoldable pub spelled : ℕ → Option Pitch
spelled key = pitch_at (7 * (key / 12 - 1) + (class_spelling (key % 12)).0) (class_spelling (key % 12)).1
