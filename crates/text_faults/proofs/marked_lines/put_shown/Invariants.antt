use Rattle.std.proofs.Common.{◌≡◌, ◌++◌, drop, map}
use Rattle.text_faults.specs.MarkedLines.{shown_byte}
use Rattle.text_faults.proofs.marked_lines.put_shown.Given as goal

-- what is written so far, and what is left, are what is to be written
abbrev pub invariant-loop-byte : goal.invariant-loop-byte
invariant-loop-byte l =
    l.out.items ++ map shown_byte (drop l.byte-index l.line) ≡ l.fn.out.items ++ map shown_byte l.line
