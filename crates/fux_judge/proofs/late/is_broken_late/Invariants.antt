use Rattle.std.proofs.Common.{◌≡◌, false, List, ◌+◌}
use Rattle.fux_grid.specs.declared.cell.Cell.{Cell}
use Rattle.rule_law.specs.Growth.{any_below}
use Rattle.fux_judge.specs.States.{HasCome}
use Rattle.fux_judge.proofs.LateLemmas.{some_at}
use Rattle.fux_judge.proofs.late.is_broken_late.Given as goal

abbrev pub invariant-loop-k : goal.invariant-loop-k
invariant-loop-k l = (p : List (List Cell)) (col : List Cell) → HasCome l.ex l.next p col
    → any_below (λ k. some_at l.rule l.ex p col (l.places.first + k)) l.k ≡ false
