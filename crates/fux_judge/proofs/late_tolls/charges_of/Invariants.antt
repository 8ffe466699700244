use Rattle.std.proofs.Common.{◌≡◌, ◌≤◌, ◌*◌, List, length, ◌+◌}
use Rattle.fux_grid.specs.declared.cell.Cell.{Cell}
use Rattle.rule_law.specs.Growth.{sum_below}
use Rattle.fux_judge.specs.Penalties.{new_toll}
use Rattle.fux_judge.specs.Rules.{toll_at}
use Rattle.fux_judge.specs.States.{HasCome}
use Rattle.fux_judge.proofs.late_tolls.charges_of.Given as goal

abbrev pub invariant-loop-k : goal.invariant-loop-k
invariant-loop-k l = record {
  value : (p : List (List Cell)) (col : List Cell) → HasCome l.ex l.next p col
      → l.sum ≡ sum_below (λ k. new_toll l.ex l.sheet p col ((toll_at l.toll).first l.ex (length p) + k) l.toll) l.k;
  small : l.sum ≤ 393210 * l.k;
}
