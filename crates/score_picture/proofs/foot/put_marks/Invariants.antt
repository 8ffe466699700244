use Rattle.std.proofs.Common.{◌≡◌, ◌+◌, ◌*◌, ◌^◌, ◌≤◌, ◌++◌, string_bytes, drop}
use Rattle.score_picture.specs.Pictures.{mark_rows}
use Rattle.score_picture.proofs.foot.put_marks.Given as goal

-- what is written so far, and what is left from this height down, are what is to be written
abbrev pub invariant-loop-mark : goal.invariant-loop-mark
invariant-loop-mark l = record {
  rows : string_bytes l.out ++ mark_rows l.height (drop l.mark-index l.marks)
      ≡ string_bytes l.fn.out ++ mark_rows l.y l.marks;
  most : l.height ≤ 2 ^ 100 + 17 * l.mark-index;
}
