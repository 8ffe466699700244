use Rattle.std.proofs.Common.{take}
use Rattle.cert_text.specs.HeadRows.{AreDigits}
use Rattle.cert_text.proofs.scan.number_line.Given as goal

-- the digits so far are those of the number
abbrev pub invariant-loop-i : goal.invariant-loop-i
invariant-loop-i l = AreDigits l.number (take l.i l.bytes)
