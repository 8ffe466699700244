use Rattle.std.proofs.Common.{◌≡◌, take}
use Rattle.voice_lines.specs.Lines.{column_of}
use Rattle.voice_lines.proofs.column_of.Given as goal

-- the column of the lines so far
abbrev pub invariant-loop-line : goal.invariant-loop-line
invariant-loop-line l = l.column.items ≡ column_of (take l.line-index l.lines) l.slot
