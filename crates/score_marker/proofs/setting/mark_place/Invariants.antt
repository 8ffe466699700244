use Rattle.std.proofs.Common.{◌≡◌, ◌++◌, take}
use Rattle.score_marker.specs.Lists.{marks_of_place}
use Rattle.score_marker.specs.Setting.{breaks_of, sets_in_order}
use Rattle.score_marker.proofs.setting.mark_place.Given as goal

abbrev pub invariant-loop-rule : goal.invariant-loop-rule
invariant-loop-rule l = l.marks.items ≡ l.fn.marks.items
    ++ marks_of_place (breaks_of l.ex l.score.columns) sets_in_order (take l.rule-index l.rule-items) l.i
