use Rattle.std.proofs.Common.{◌≡◌, ◌++◌, string_bytes, drop}
use Rattle.score_marker.specs.MarkLines.{mark_lines}
use Rattle.score_marker.proofs.mark_lines.put_marks.Given as goal

-- what is written so far, and what is left, are what is to be written
abbrev pub invariant-loop-mark : goal.invariant-loop-mark
invariant-loop-mark l =
    string_bytes l.out ++ mark_lines l.ex (drop l.mark-index l.marks) ≡ string_bytes l.fn.out ++ mark_lines l.ex l.marks
