use Rattle.std.proofs.Common.{◌≡◌, ◌++◌, string_bytes, map, drop}
use Rattle.std.specs.Fmt.{decimal}
use Rattle.fux_text.specs.Words.{spaced}
use Rattle.price_check.proofs.writing.put_keys.Given as goal

-- what is written so far, and what is left, are what is to be written
abbrev pub invariant-loop-key : goal.invariant-loop-key
invariant-loop-key l = string_bytes l.out ++ spaced (map decimal (drop l.key-index l.keys))
    ≡ string_bytes l.fn.out ++ spaced (map decimal l.keys)
