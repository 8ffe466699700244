use Rattle.std.proofs.Common.{◌≡◌, ◌++◌, drop}
use Rattle.std.specs.Prelude.{map}
use Rattle.std.specs.Char.{to_ascii_lowercase}
use Rattle.text_faults.proofs.shown.put_small.Given as goal

-- what is written so far, and what is left, are what is to be written
abbrev pub invariant-loop-byte : goal.invariant-loop-byte
invariant-loop-byte l =
    l.out.items ++ map to_ascii_lowercase (drop l.byte-index l.word) ≡ l.fn.out.items ++ map to_ascii_lowercase l.word
