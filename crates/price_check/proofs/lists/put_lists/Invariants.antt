use Rattle.std.proofs.Common.{◌≡◌, ◌++◌, drop, map, string_bytes}
use Rattle.std.specs.Prelude.{flat_map}
use Rattle.price_check.specs.PriceLines.{line_of, line_text}
use Rattle.price_check.proofs.lists.put_lists.Given as goal

-- what is written so far, and what is left, are what is to be written
abbrev pub invariant-loop-line : goal.invariant-loop-line
invariant-loop-line l = string_bytes l.out ++ flat_map line_text (map line_of (drop l.line-index l.lines))
    ≡ string_bytes l.fn.out ++ flat_map line_text (map line_of l.lines)
