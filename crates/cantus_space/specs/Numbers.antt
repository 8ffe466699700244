-- Numbers of pitches, by their keys from 24 on, as keys are spelled.
use Rattle.std.specs.Prelude.{ℕ, ◌+◌, Option, Some, None}
use Rattle.fux_pitch.specs.declared.pitch.Pitch.{Pitch}
use Rattle.fux_pitch.specs.Spelling.{spelled}
use Rattle.cantus_space.specs.declared.plan.CantusPlan.{CantusPlan}

-- how many keys there are, from 24 to 96
abbrev pub WIDTH : ℕ
WIDTH = 73

-- a pitch, where there is one, else another one
abbrev pub pitch_or : Pitch → Option Pitch → Pitch
pitch_or low None = low
pitch_or low (Some p) = p

-- the pitch of a number below 73; of each other number the range's low end
abbrev pub numbered_pitch : CantusPlan → ℕ → Pitch
numbered_pitch plan k = pitch_or plan.low (spelled (k + 24))
