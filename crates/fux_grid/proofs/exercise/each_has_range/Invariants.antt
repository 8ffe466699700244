use Rattle.std.proofs.Common.{ℕ, ◌<◌}
use Rattle.fux_grid.specs.Exercises.{BeginsWithWhole, IsFree, range_lines}
use Rattle.fux_grid.proofs.exercise.each_has_range.Given as goal

abbrev pub invariant-loop-v : goal.invariant-loop-v
invariant-loop-v l = (k : ℕ) → k < l.v → IsFree l.ex k → BeginsWithWhole (range_lines l.ex k)
