use Rattle.std.proofs.Common.{◌≡◌, ◌*◌, ◌≤◌, List, take}
use Rattle.fux_grid.specs.declared.cell.Cell.{Cell}
use Rattle.fux_judge.specs.Moments.{IsAfter, prices_then}
use Rattle.fux_judge.proofs.reading.prices_for.Given as goal

abbrev pub invariant-loop-bits : goal.invariant-loop-bits
invariant-loop-bits l = record {
  value : (p : List (List Cell)) → IsAfter p l.m → l.sum ≡ prices_then (take l.bits-index l.sets) l.rule p l.m;
  small : l.sum ≤ 10000 * l.bits-index;
}
