use Rattle.std.proofs.Common.{◌≡◌, ◌+◌, ◌-◌, ◌++◌, string_bytes}
use Rattle.std.specs.List.{flat_map, range_with_len}
use Rattle.score_print.specs.Printed.{printed_column}
use Rattle.score_print.proofs.rows.put_columns.Given as goal

-- what is written so far, and the columns that are left, are what is to be written
abbrev pub invariant-loop-i : goal.invariant-loop-i
invariant-loop-i l =
    string_bytes l.out ++ flat_map (printed_column l.ex l.v) (range_with_len l.i (l.first + l.count - l.i))
    ≡ string_bytes l.fn.out ++ flat_map (printed_column l.ex l.v) (range_with_len l.first l.count)
