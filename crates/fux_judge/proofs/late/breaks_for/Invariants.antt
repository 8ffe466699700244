use Rattle.std.proofs.Common.{◌≡◌, false, List, take, length}
use Rattle.std.specs.List.{list_any}
use Rattle.fux_grid.specs.declared.cell.Cell.{Cell}
use Rattle.rule_law.specs.Rulebooks.{IsAmong}
use Rattle.fux_judge.specs.Penalties.{newly_broken_at}
use Rattle.fux_judge.specs.Rules.{rule_at}
use Rattle.fux_judge.specs.States.{HasCome}
use Rattle.fux_judge.proofs.late.breaks_for.Given as goal

abbrev pub invariant-loop-bits : goal.invariant-loop-bits
invariant-loop-bits l = (p : List (List Cell)) (col : List Cell) → HasCome l.ex l.next p col
    → IsAmong ((rule_at l.rule).first l.ex (length p)) ((rule_at l.rule).count l.ex (length p)) l.place
    → list_any (λ voices. newly_broken_at l.rule l.ex voices p col l.place) (take l.bits-index l.sets) ≡ false
