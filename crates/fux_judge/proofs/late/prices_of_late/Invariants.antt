use Rattle.std.proofs.Common.{◌≡◌, ◌≤◌, ◌*◌, List, length, ◌+◌}
use Rattle.std.specs.List.{sum_by}
use Rattle.fux_grid.specs.declared.cell.Cell.{Cell}
use Rattle.rule_law.specs.Growth.{sum_below}
use Rattle.fux_judge.specs.Penalties.{new_price}
use Rattle.fux_judge.specs.Rules.{rule_at}
use Rattle.fux_judge.specs.States.{HasCome}
use Rattle.fux_judge.specs.Steps.{sets_of_rule}
use Rattle.fux_judge.proofs.late.prices_of_late.Given as goal

abbrev pub invariant-loop-k : goal.invariant-loop-k
invariant-loop-k l = record {
  value : (p : List (List Cell)) (col : List Cell) → HasCome l.ex l.next p col
      → l.sum ≡ sum_below (λ k. sum_by (new_price l.ex p col ((rule_at l.rule).first l.ex (length p) + k) l.rule)
      (sets_of_rule l.rule l.ex)) l.k;
  small : l.sum ≤ 60000 * l.k;
}
