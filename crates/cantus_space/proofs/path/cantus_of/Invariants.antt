-- What the reading of a path keeps.
use Rattle.std.proofs.Common.{◌≡◌, take}
use Rattle.cantus_space.specs.Paths.{pitches_at}
use Rattle.cantus_space.proofs.path.cantus_of.Given as goal

-- the pitches so far are those of the path so far
abbrev pub invariant-loop-k : goal.invariant-loop-k
invariant-loop-k l = l.cantus.items ≡ pitches_at l.space (take l.k-index l.path)
