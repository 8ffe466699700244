use Rattle.std.proofs.Common.{◌≡◌, ◌==◌, drop}
use Rattle.std.specs.List.{find}
use Rattle.written_notes.proofs.clefs.range_line.Given as goal

-- what is left has the first line
abbrev pub invariant-loop-line : goal.invariant-loop-line
invariant-loop-line l =
    find (λ line. line.voice == l.v) l.lines ≡ find (λ line. line.voice == l.v) (drop l.line-index l.lines)
