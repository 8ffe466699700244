use Rattle.std.proofs.Common.{◌≡◌, ℕ, ◌-◌, ◌++◌, replicate}
use Rattle.text_faults.proofs.marked_lines.put_spaces.Given as goal

-- what is written so far, and the spaces that are left, are what is to be written
abbrev pub invariant-loop : goal.invariant-loop
invariant-loop l =
    l.out.items ++ replicate {A = ℕ} (l.count - l.counter) 32 ≡ l.fn.out.items ++ replicate {A = ℕ} l.count 32
