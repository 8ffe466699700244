use Rattle.std.proofs.Common.{◌≡◌, drop}
use Rattle.text_faults.specs.Slots.{counted_from, nothing_counted}
use Rattle.text_faults.proofs.slots.counted.Given as goal

-- what is counted so far, and what is left, are all
abbrev pub invariant-loop-at : goal.invariant-loop-at
invariant-loop-at l = counted_from l.at l.count (drop l.at l.before) ≡ counted_from 0 nothing_counted l.before
