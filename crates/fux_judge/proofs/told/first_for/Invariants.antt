use Rattle.std.proofs.Common.{◌≡◌, List, drop}
use Rattle.std.specs.List.{find}
use Rattle.fux_grid.specs.declared.cell.Cell.{Cell}
use Rattle.fux_judge.specs.Moments.{IsAfter, is_strict_break_then}
use Rattle.fux_judge.proofs.told.first_for.Given as goal

-- the first is among those that are left
abbrev pub invariant-loop-rule : goal.invariant-loop-rule
invariant-loop-rule l = (p : List (List Cell)) → IsAfter p l.m
    → find (λ rule. is_strict_break_then rule l.voices.bits p l.m) l.rules
    ≡ find (λ rule. is_strict_break_then rule l.voices.bits p l.m) (drop l.rule-index l.rules)
