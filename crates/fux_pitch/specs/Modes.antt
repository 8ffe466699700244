-- The six modes: their names, finals, leading notes and gamuts.
use Rattle.std.specs.Prelude.{ℕ, ◌+◌, ◌%◌, ℤ, pos, negsuc, Bool, false, List, codes, ◌==◌, ◌&&◌, ◌||◌, nat_le}
use Rattle.std.specs.Ordering.{int_eq}
use Rattle.fux_pitch.specs.Pitch.{degree_of, alter_of}
use Rattle.fux_pitch.specs.declared.pitch.Pitch.{Pitch}
use Rattle.fux_pitch.specs.declared.mode.Mode.{Mode}
use Rattle.fux_pitch.specs.declared.mode.Mode.TheVariants.{Dorian, Phrygian, Lydian, Mixolydian, Aeolian, Ionian}

-- the name
abbrev pub mode_name : Mode → List ℕ
mode_name Dorian = codes "dorian"
mode_name Phrygian = codes "phrygian"
mode_name Lydian = codes "lydian"
mode_name Mixolydian = codes "mixolydian"
mode_name Aeolian = codes "aeolian"
mode_name Ionian = codes "ionian"

-- the letter of the final: 0 is C, 6 is B
abbrev pub final_of : Mode → ℕ
final_of Dorian = 1
final_of Phrygian = 2
final_of Lydian = 3
final_of Mixolydian = 4
final_of Aeolian = 5
final_of Ionian = 0

-- the letter and the alteration of the leading note
abbrev pub leading_of : Mode → ℕ × ℤ
leading_of Dorian = (0, pos 1)
leading_of Phrygian = (1, pos 0)
leading_of Lydian = (2, pos 0)
leading_of Mixolydian = (3, pos 1)
leading_of Aeolian = (4, pos 1)
leading_of Ionian = (6, pos 0)

-- the letters that the mode raises near its end
abbrev pub raises : Mode → ℕ → Bool
raises Dorian letter = letter == 0
raises Phrygian letter = false
raises Lydian letter = false
raises Mixolydian letter = letter == 3
raises Aeolian letter = (letter == 3) || (letter == 4)
raises Ionian letter = false

-- a bar's gamut: the naturals and B flat, and in the last two bars what the mode raises
abbrev pub is_in_gamut : Mode → ℕ → ℕ → Pitch → Bool
is_in_gamut mode bar bars p =
    int_eq (alter_of p) (pos 0)
    || (int_eq (alter_of p) (negsuc 0) && (degree_of p % 7 == 6))
    || (int_eq (alter_of p) (pos 1) && raises mode (degree_of p % 7) && nat_le bars (bar + 1))
