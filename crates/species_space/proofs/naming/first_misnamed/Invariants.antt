-- No voice so far is named that may not be.
use Rattle.std.proofs.Common.{ℕ, ◌<◌}
use Rattle.species_space.specs.Naming.{IsMisnamed}
use Rattle.species_space.proofs.naming.first_misnamed.Given as goal

abbrev pub invariant-loop-v : goal.invariant-loop-v
invariant-loop-v l = (w : ℕ) → w < l.v → IsMisnamed l.ex l.named w → ⊥
