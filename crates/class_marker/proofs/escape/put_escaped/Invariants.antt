use Rattle.std.proofs.Common.{◌≡◌, ◌++◌, drop}
use Rattle.std.specs.List.{flat_map}
use Rattle.class_marker.specs.Escapes.{escaped_byte}
use Rattle.class_marker.proofs.escape.put_escaped.Given as goal

-- what is written so far, and what is left, are what is to be written
abbrev pub invariant-loop-byte : goal.invariant-loop-byte
invariant-loop-byte l =
    l.out.items ++ flat_map escaped_byte (drop l.byte-index l.text)
    ≡ l.fn.out.items ++ flat_map escaped_byte l.text
