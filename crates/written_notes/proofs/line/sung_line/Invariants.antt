use Rattle.std.proofs.Common.{◌≡◌, take}
use Rattle.written_notes.specs.Lines.{sung_line}
use Rattle.written_notes.proofs.line.sung_line.Given as goal

-- the line so far is that of the columns so far
abbrev pub invariant-loop-i : goal.invariant-loop-i
invariant-loop-i l = l.line.items ≡ sung_line (take l.i l.score.columns) l.v
