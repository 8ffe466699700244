use Rattle.std.proofs.Common.{ℕ, ◌<◌}
use Rattle.fux_judge.specs.Pruning.{IsFairPair}
use Rattle.fux_judge.proofs.pruning.breaks_with_lower.Given as goal

-- the voice moves fairly with the lower ones so far
abbrev pub invariant-loop-lower : goal.invariant-loop-lower
invariant-loop-lower l = (v : ℕ) → v < l.lower → IsFairPair v l.voice l.ex l.state l.col.items
