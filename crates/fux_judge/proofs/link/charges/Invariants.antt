use Rattle.std.proofs.Common.{◌≡◌, ◌*◌, ◌≤◌, take}
use Rattle.std.specs.List.{sum_by}
use Rattle.fux_judge.specs.Neighbors.{charge_at_link}
use Rattle.fux_judge.proofs.link.charges.Given as goal

abbrev pub invariant-loop-toll : goal.invariant-loop-toll
invariant-loop-toll l = record {
  value : l.sum ≡ sum_by (charge_at_link l.sheet l.link) (take l.toll-index l.tolls);
  small : l.sum ≤ 393210 * l.toll-index;
}
