use Rattle.std.proofs.Common.{◌≡◌, map, take}
use Rattle.class_marker.specs.Entries.{shown_mark}
use Rattle.class_marker.proofs.telling.shown_marks.Given as goal

abbrev pub invariant-loop-mark : goal.invariant-loop-mark
invariant-loop-mark l = l.shown.items ≡ map shown_mark (take l.mark-index l.marks)
