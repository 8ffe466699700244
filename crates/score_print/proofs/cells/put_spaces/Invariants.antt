use Rattle.std.proofs.Common.{◌≡◌, ◌-◌, ◌++◌, string_bytes, replicate}
use Rattle.score_print.proofs.cells.put_spaces.Given as goal

-- what is written so far, and the spaces that are left
abbrev pub invariant-loop : goal.invariant-loop
invariant-loop l =
    string_bytes l.out ++ replicate (l.count - l.counter) 32 ≡ string_bytes l.fn.out ++ replicate l.count 32
