use Rattle.std.proofs.Common.{◌≡◌, ◌*◌, ◌≤◌, List, take, length}
use Rattle.std.specs.List.{sum_by}
use Rattle.fux_grid.specs.declared.cell.Cell.{Cell}
use Rattle.rule_law.specs.Rulebooks.{IsAmong}
use Rattle.fux_judge.specs.Penalties.{new_price}
use Rattle.fux_judge.specs.Rules.{rule_at}
use Rattle.fux_judge.specs.States.{HasCome}
use Rattle.fux_judge.proofs.late.prices_for.Given as goal

abbrev pub invariant-loop-bits : goal.invariant-loop-bits
invariant-loop-bits l = record {
  value : (p : List (List Cell)) (col : List Cell) → HasCome l.ex l.next p col
      → IsAmong ((rule_at l.rule).first l.ex (length p)) ((rule_at l.rule).count l.ex (length p)) l.place
      → l.sum ≡ sum_by (new_price l.ex p col l.place l.rule) (take l.bits-index l.sets);
  small : l.sum ≤ 10000 * l.bits-index;
}
