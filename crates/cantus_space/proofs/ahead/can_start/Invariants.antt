-- What the trying of numbers keeps.
use Rattle.std.proofs.Common.{◌≡◌, ℕ, ◌<◌, false}
use Rattle.cantus_space.specs.Cantus.{may_sound}
use Rattle.cantus_space.specs.Numbers.{numbered_pitch}
use Rattle.cantus_space.proofs.ahead.can_start.Given as goal

-- none so far may sound
abbrev pub invariant-loop-k : goal.invariant-loop-k
invariant-loop-k l = (n : ℕ) → n < l.k → may_sound l.plan l.bar (numbered_pitch l.plan n) ≡ false
