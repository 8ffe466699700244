use Rattle.std.proofs.Common.{◌≡◌, ◌-◌, ◌++◌, string_bytes}
use Rattle.std.specs.List.{flat_map, range_with_len}
use Rattle.score_print.specs.Printed.{printed_bar}
use Rattle.score_print.proofs.rows.put_bars.Given as goal

-- what is written so far, and the bars that are left, are what is to be written
abbrev pub invariant-loop-bar : goal.invariant-loop-bar
invariant-loop-bar l =
    string_bytes l.out ++ flat_map (printed_bar l.ex l.slots l.v) (range_with_len l.bar (l.end - l.bar))
    ≡ string_bytes l.fn.out ++ flat_map (printed_bar l.ex l.slots l.v) (range_with_len l.first (l.end - l.first))
