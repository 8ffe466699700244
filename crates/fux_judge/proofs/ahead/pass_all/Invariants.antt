use Rattle.std.proofs.Common.{◌≡◌, ◌+◌, ◌∷◌, ◌++◌, [], List, length}
use Rattle.fux_grid.specs.declared.cell.Cell.{Cell}
use Rattle.fux_grid.specs.Exercises.{IsFree, IsValid}
use Rattle.rule_law.specs.Prefixes.{IsPrefix}
use Rattle.fux_judge.specs.GaugeStates.{AreAheadOf, IsAheadOf}
use Rattle.rule_law.proofs.FourLemmas.{AreBetween}
use Rattle.fux_judge.proofs.ahead.pass_all.Given as goal

abbrev pub invariant-loop-v : goal.invariant-loop-v
invariant-loop-v l = record {
  long : length l.ahead ≡ 4;
  each :
      (p : List (List Cell)) → length p ≡ l.i → AreAheadOf l.ex p l.initial.ahead → IsValid l.ex
      → IsPrefix l.ex (p ++ l.column ∷ [])
      → AreBetween (λ v ahead. IsFree l.ex v → IsAheadOf l.ex v (l.i + 1) ahead)
      (λ v ahead. IsFree l.ex v → IsAheadOf l.ex v l.i ahead) l.v l.ahead;
}
