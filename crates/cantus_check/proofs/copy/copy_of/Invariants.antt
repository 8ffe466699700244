use Rattle.std.proofs.Common.{◌≡◌, take}
use Rattle.cantus_check.proofs.copy.copy_of.Given as goal

-- so many pitches are copied
abbrev pub invariant-loop-pitch : goal.invariant-loop-pitch
invariant-loop-pitch l = l.copy.items ≡ take l.pitch-index l.pitches
