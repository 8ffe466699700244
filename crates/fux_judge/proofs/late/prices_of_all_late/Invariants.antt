use Rattle.std.proofs.Common.{◌≡◌, ◌≤◌, ◌*◌, List, take}
use Rattle.std.specs.List.{sum_by}
use Rattle.fux_grid.specs.declared.cell.Cell.{Cell}
use Rattle.fux_judge.specs.States.{HasCome}
use Rattle.fux_judge.specs.Steps.{prices_late}
use Rattle.fux_judge.proofs.late.prices_of_all_late.Given as goal

abbrev pub invariant-loop-rule : goal.invariant-loop-rule
invariant-loop-rule l = record {
  value : (p : List (List Cell)) (col : List Cell) → HasCome l.ex l.next p col → l.sum
      ≡ sum_by (prices_late l.ex p col) (take l.rule-index l.rule-items);
  small : l.sum ≤ 1440000 * l.rule-index;
}
