-- The leading note of a mode.
use Rattle.std.specs.Prelude.{◌==◌, ◌%◌, Bool, ◌&&◌}
use Rattle.std.specs.Ordering.{int_eq}
use Rattle.fux_pitch.specs.declared.mode.Mode.{Mode}
use Rattle.fux_pitch.specs.declared.pitch.Pitch.{Pitch}
use Rattle.fux_pitch.specs.Modes.{leading_of}
use Rattle.fux_pitch.specs.Pitch.{alter_of, degree_of}

-- the pitch has the letter and the alteration of the mode's leading note, in any octave
abbrev pub is_leading : Mode → Pitch → Bool
is_leading mode p = (degree_of p % 7 == (leading_of mode).0) && int_eq (alter_of p) (leading_of mode).1
