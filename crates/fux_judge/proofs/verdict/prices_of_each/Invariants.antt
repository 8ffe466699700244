use Rattle.std.proofs.Common.{◌≡◌, ◌*◌, ◌≤◌, List, take}
use Rattle.std.specs.List.{sum_by}
use Rattle.fux_grid.specs.declared.cell.Cell.{Cell}
use Rattle.fux_judge.specs.Rules.{all_sets}
use Rattle.fux_judge.specs.Moments.{IsAfter, prices_then}
use Rattle.fux_judge.proofs.verdict.prices_of_each.Given as goal

abbrev pub invariant-loop-rule : goal.invariant-loop-rule
invariant-loop-rule l = record {
  value : (p : List (List Cell)) → IsAfter p l.m → l.sum
      ≡ sum_by (λ rule. prices_then all_sets rule p l.m) (take l.rule-index l.rules);
  small : l.sum ≤ 60000 * l.rule-index;
}
