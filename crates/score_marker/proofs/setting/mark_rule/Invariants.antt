use Rattle.std.proofs.Common.{◌≡◌, ◌++◌, take}
use Rattle.score_marker.specs.Lists.{marks_of_rule}
use Rattle.score_marker.specs.Setting.{breaks_of}
use Rattle.score_marker.proofs.setting.mark_rule.Given as goal

abbrev pub invariant-loop-bits : goal.invariant-loop-bits
invariant-loop-bits l = l.marks.items ≡ l.fn.marks.items
    ++ marks_of_rule (breaks_of l.ex l.score.columns) (take l.bits-index l.bits-items) l.i l.rule
