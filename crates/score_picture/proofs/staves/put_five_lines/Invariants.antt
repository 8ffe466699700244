use Rattle.std.proofs.Common.{◌≡◌, ◌+◌, ◌*◌, ◌-◌, ◌++◌, string_bytes}
use Rattle.std.specs.List.{flat_map, range_with_len}
use Rattle.score_picture.specs.StaffRows.{five_lines, level}
use Rattle.score_picture.proofs.staves.put_five_lines.Given as goal

-- what is written so far, and the lines that are left, are what is to be written
abbrev pub invariant-loop-line : goal.invariant-loop-line
invariant-loop-line l =
    string_bytes l.out ++ flat_map (λ line. level l.from l.width (l.top + 8 * line)) (range_with_len l.line (5 - l.line))
    ≡ string_bytes l.fn.out ++ five_lines l.from l.width l.top
