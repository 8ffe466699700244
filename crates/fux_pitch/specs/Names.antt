-- The names of pitches.
use Rattle.std.specs.Prelude.{ℕ, ◌+◌, ◌/◌, ◌%◌, ℤ, pos, negsuc, List, [], ◌∷◌, ◌++◌, slice_index, codes, if◌then◌else◌}
use Rattle.std.specs.Ordering.{int_eq}
use Rattle.fux_pitch.specs.Pitch.{degree_of, alter_of}
use Rattle.fux_pitch.specs.declared.pitch.Pitch.{Pitch}

-- the byte of a letter, where 0 is C and 6 is B
abbrev pub letter_byte : ℕ → ℕ
letter_byte letter = slice_index (codes "CDEFGAB") letter

-- `#` raises, `b` lowers, and a natural has no sign
abbrev pub accidental : ℤ → List ℕ
accidental alter = if int_eq alter (pos 1) then codes "#" else (if int_eq alter (negsuc 0) then codes "b" else [])

-- the name of a pitch: its letter, its accidental, and the digit of its octave
unfoldable pub name_of : Pitch → List ℕ
name_of p = letter_byte (degree_of p % 7) ∷ accidental (alter_of p) ++ (48 + degree_of p / 7) ∷ []
