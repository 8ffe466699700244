use Rattle.std.proofs.Common.{◌≡◌, ◌-◌, ◌++◌, string_bytes}
use Rattle.std.specs.List.{flat_map, range_with_len}
use Rattle.score_picture.specs.Pictures.{bar_at, bars}
use Rattle.score_picture.proofs.bars.put_bars.Given as goal

-- what is written so far, and the bars that are left, are what is to be written
abbrev pub invariant-loop-bar : goal.invariant-loop-bar
invariant-loop-bar l =
    string_bytes l.out ++ flat_map (bar_at l.marked.ex.now l.marked.marks.now l.lines l.staves l.places)
    (range_with_len l.bar (l.marked.ex.now.bars - l.bar))
    ≡ string_bytes l.fn.out ++ bars l.marked.ex.now l.marked.marks.now l.lines l.staves l.places
