use Rattle.std.proofs.Common.{◌≡◌, ◌++◌, take, drop}
use Rattle.cert_text.specs.Lines.{line_part}
use Rattle.cert_text.specs.StatedLines.{IsStatedLine, is_of_potential, stated_bytes}
use Rattle.cert_text.proofs.stated_line.StatedLine.read.Given as goal

-- the bytes so far were read, and none of them is a line feed
abbrev pub invariant-loop-i : goal.invariant-loop-i
invariant-loop-i l =
    IsStatedLine l.line
    × (is_of_potential l.line ≡ is_of_potential l.fn.self)
    × (stated_bytes l.line ≡ stated_bytes l.fn.self ++ take l.i l.piece)
    × (line_part l.piece ≡ take l.i l.piece ++ line_part (drop l.i l.piece))
