-- How far two pitches lie apart on the staff.
use Rattle.std.specs.Prelude.{ℕ, ◌+◌, ◌==◌, Bool, false, Option, Some, None}
use Rattle.fux_pitch.specs.declared.pitch.Pitch.{Pitch}
use Rattle.fux_pitch.specs.Pitch.{degree_of}

-- the first pitch lies exactly so many degrees above the second, where there are both
abbrev pub lies_above : ℕ → Option Pitch → Option Pitch → Bool
lies_above degrees None q = false
lies_above degrees (Some p) None = false
lies_above degrees (Some p) (Some q) = degree_of p == degree_of q + degrees
