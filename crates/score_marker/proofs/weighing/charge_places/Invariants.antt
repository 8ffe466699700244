use Rattle.std.proofs.Common.{◌≡◌, ◌++◌, take}
use Rattle.std.specs.List.{flat_map, range_with_len}
use Rattle.fux_judge.specs.States.{IsPastOf}
use Rattle.score_marker.specs.Charges.{charges_at_place}
use Rattle.score_marker.proofs.weighing.charge_places.Given as goal

abbrev pub invariant-loop-i : goal.invariant-loop-i
invariant-loop-i l = record {
  made : l.charges.items ≡ l.fn.charges.items
      ++ flat_map (charges_at_place l.ex l.sheet l.score.columns) (range_with_len 0 l.i);
  past : IsPastOf l.ex (take l.i l.score.columns) l.past;
}
