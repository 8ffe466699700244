use Rattle.std.proofs.Common.{ℕ, ◌<◌, slice_index_or}
use Rattle.fux_grid.specs.Exercises.{IsFree, IsSpecies}
use Rattle.fux_grid.proofs.exercise.are_species.Given as goal

abbrev pub invariant-loop-v : goal.invariant-loop-v
invariant-loop-v l = (k : ℕ) → k < l.v → IsFree l.ex k → IsSpecies (slice_index_or l.species k 1)
