use Rattle.std.proofs.Common.{◌≡◌, take}
use Rattle.std.specs.List.{range_with_len}
use Rattle.fux_judge.specs.Rules.{rules_read}
use Rattle.fux_judge.specs.States.{IsPastOf}
use Rattle.score_marker.specs.Lists.{marks_of_places}
use Rattle.score_marker.specs.Setting.{breaks_of, sets_in_order}
use Rattle.score_marker.proofs.setting.marks.Given as goal

abbrev pub invariant-loop-i : goal.invariant-loop-i
invariant-loop-i l = record {
  made : l.marks.items ≡ marks_of_places (breaks_of l.ex l.score.columns) sets_in_order rules_read
      (range_with_len 0 l.i);
  past : IsPastOf l.ex (take l.i l.score.columns) l.past;
}
