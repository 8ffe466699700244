use Rattle.std.proofs.Common.{◌≡◌, ◌++◌, take, drop}
use Rattle.cert_text.specs.Begun.{IsBegun, begun_bytes}
use Rattle.cert_text.specs.Lines.{line_part}
use Rattle.cert_text.proofs.begun.Begun.read.Given as goal

-- the bytes so far were read, and none of them is a line feed
abbrev pub invariant-loop-i : goal.invariant-loop-i
invariant-loop-i l =
    IsBegun l.begun
    × (begun_bytes l.begun ≡ begun_bytes l.fn.self ++ take l.i l.piece)
    × (line_part l.piece ≡ take l.i l.piece ++ line_part (drop l.i l.piece))
