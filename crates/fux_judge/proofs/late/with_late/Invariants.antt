use Rattle.std.proofs.Common.{◌≡◌, ◌==◌, ◌&&◌, ◌||◌, ℕ, List, take}
use Rattle.std.specs.List.{list_any}
use Rattle.fux_grid.specs.declared.cell.Cell.{Cell}
use Rattle.rule_law.specs.Voices.{has_rule}
use Rattle.fux_judge.specs.States.{HasCome}
use Rattle.fux_judge.specs.Steps.{breaks_late}
use Rattle.fux_judge.proofs.late.with_late.Given as goal

abbrev pub invariant-loop-rule : goal.invariant-loop-rule
invariant-loop-rule l = (p : List (List Cell)) (col : List Cell) → HasCome l.ex l.next p col → (r : ℕ)
    → has_rule l.broken.bits r ≡ (has_rule l.fn.set.bits r
    || list_any (λ rule. breaks_late l.ex p col rule && r == rule) (take l.rule-index l.rule-items))
