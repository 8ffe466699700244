use Rattle.std.proofs.Common.{◌≡◌, ◌*◌, ◌≤◌, ◌++◌, length, drop}
use Rattle.std.specs.Prelude.{encode_utf8}
use Rattle.std.specs.List.{flat_map}
use Rattle.score_print.specs.Printed.{printed_char, printed_name}
use Rattle.score_print.proofs.cells.printed_name.Given as goal

-- what is made so far, and the characters that are left, are the printed name
abbrev pub invariant-loop-byte : goal.invariant-loop-byte
invariant-loop-byte l =
    (length l.printed.bytes ≤ 4 * l.byte-index)
    × (l.printed.bytes ++ flat_map (λ c. encode_utf8 (printed_char c))
    (drop l.byte-index l.byte-items) ≡ printed_name l.fn.p)
