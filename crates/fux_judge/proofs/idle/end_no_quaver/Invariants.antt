use Rattle.std.proofs.Common.{ℕ, ◌<◌}
use Rattle.fux_judge.specs.Idle.{EndsNoQuaver}
use Rattle.fux_judge.proofs.idle.end_no_quaver.Given as goal

-- the voices so far
abbrev pub invariant-loop-v : goal.invariant-loop-v
invariant-loop-v l = (w : ℕ) → w < l.v → EndsNoQuaver l.ex l.fn.i w
