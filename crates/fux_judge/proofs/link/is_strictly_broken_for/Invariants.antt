use Rattle.std.proofs.Common.{◌≡◌, false, take}
use Rattle.fux_judge.specs.Neighbors.{is_strict_for}
use Rattle.fux_judge.proofs.link.is_strictly_broken_for.Given as goal

abbrev pub invariant-loop-bits : goal.invariant-loop-bits
invariant-loop-bits l = is_strict_for l.link l.rule (take l.bits-index l.sets) ≡ false
