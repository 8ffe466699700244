use Rattle.std.proofs.Common.{◌≡◌, ◌≤◌, length, take}
use Rattle.cert_text.proofs.scan.fixed.Given as goal

-- so much of the text stands at the front
abbrev pub invariant-loop-i : goal.invariant-loop-i
invariant-loop-i l = (l.i ≤ length l.bytes) × (take l.i l.bytes ≡ take l.i l.text)
