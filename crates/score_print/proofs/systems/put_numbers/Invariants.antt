use Rattle.std.proofs.Common.{◌≡◌, ◌-◌, ◌++◌, string_bytes}
use Rattle.std.specs.List.{flat_map, range_with_len}
use Rattle.score_print.specs.Systems.{printed_number}
use Rattle.score_print.proofs.systems.put_numbers.Given as goal

-- what is written so far, and the numbers that are left, are what is to be written
abbrev pub invariant-loop-bar : goal.invariant-loop-bar
invariant-loop-bar l =
    string_bytes l.out ++ flat_map (printed_number l.ex l.slots) (range_with_len l.bar (l.end - l.bar))
    ≡ string_bytes l.fn.out ++ flat_map (printed_number l.ex l.slots) (range_with_len l.first (l.end - l.first))
