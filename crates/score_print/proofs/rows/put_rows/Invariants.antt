use Rattle.std.proofs.Common.{◌≡◌, ◌-◌, ◌++◌, reverse, string_bytes}
use Rattle.std.specs.List.{flat_map, range_with_len}
use Rattle.score_print.specs.Printed.{printed_row, printed_rows}
use Rattle.score_print.proofs.rows.put_rows.Given as goal

-- what is written so far, and the lines of the voices that are left, are what is to be written
abbrev pub invariant-loop-v : goal.invariant-loop-v
invariant-loop-v l =
    string_bytes l.out
    ++ flat_map (printed_row l.ex l.slots (range_with_len l.first (l.end - l.first))) (reverse (range_with_len 0 l.v))
    ≡ string_bytes l.fn.out ++ printed_rows l.ex l.slots (range_with_len l.first (l.end - l.first))
