use Rattle.std.proofs.Common.{◌≡◌, ◌-◌, ◌+◌, ◌≤◌, ◌++◌, filter, length}
use Rattle.std.specs.List.{range_with_len}
use Rattle.written_notes.specs.Marks.{rules_at, shows_rule}
use Rattle.written_notes.proofs.marks.rules_at.Given as goal

-- the rules so far, and those of the numbers that are left, are the rules
abbrev pub invariant-loop-rule : goal.invariant-loop-rule
invariant-loop-rule l = record {
  few : length l.rules.items + 1 ≤ l.rule;
  made : l.rules.items ++ filter (shows_rule l.marks l.spot) (range_with_len l.rule (34 - l.rule)) ≡ rules_at l.marks l.spot;
}
