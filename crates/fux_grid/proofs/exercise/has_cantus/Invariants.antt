use Rattle.std.proofs.Common.{ℕ, ◌<◌}
use Rattle.fux_grid.specs.Exercises.{HasCantusAt}
use Rattle.fux_grid.proofs.exercise.has_cantus.Given as goal

abbrev pub invariant-loop-i : goal.invariant-loop-i
invariant-loop-i l = (k : ℕ) → k < l.i → HasCantusAt l.ex l.score.columns k
