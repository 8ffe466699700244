use Rattle.std.proofs.Common.{◌≡◌, ◌≤◌, length, take}
use Rattle.score_marker.specs.Charges.{marks_in}
use Rattle.score_marker.proofs.weighing_lines.count_marks.Given as goal

abbrev pub invariant-loop-charge : goal.invariant-loop-charge
invariant-loop-charge l = record {
  count : l.count ≡ length (marks_in (take l.charge-index l.charges));
  few : l.count ≤ l.charge-index;
}
