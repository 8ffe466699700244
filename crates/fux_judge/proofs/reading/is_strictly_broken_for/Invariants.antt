use Rattle.std.proofs.Common.{◌≡◌, false, List, take}
use Rattle.fux_grid.specs.declared.cell.Cell.{Cell}
use Rattle.fux_judge.specs.Moments.{IsAfter, is_strictly_broken_then}
use Rattle.fux_judge.proofs.reading.is_strictly_broken_for.Given as goal

abbrev pub invariant-loop-bits : goal.invariant-loop-bits
invariant-loop-bits l =
    (p : List (List Cell)) → IsAfter p l.m → is_strictly_broken_then (take l.bits-index l.sets) l.rule p l.m ≡ false
