use Rattle.std.proofs.Common.{◌≤◌, ◌*◌, take}
use Rattle.class_marker.specs.Reports.{IsGathered}
use Rattle.class_marker.proofs.class.gathered.Given as goal

abbrev pub invariant-loop-part : goal.invariant-loop-part
invariant-loop-part l = record {
  so_far : IsGathered (take l.part-index l.parts) l.whole;
  marked : l.whole.marked ≤ 32 * l.part-index;
  refused : l.whole.refused ≤ 32 * l.part-index;
}
