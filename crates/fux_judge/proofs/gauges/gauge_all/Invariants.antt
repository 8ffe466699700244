use Rattle.std.proofs.Common.{◌≡◌, ◌∷◌, List, length}
use Rattle.fux_grid.specs.declared.cell.Cell.{Cell}
use Rattle.fux_grid.specs.Columns.{line}
use Rattle.fux_grid.specs.Exercises.{IsFree}
use Rattle.fux_judge.specs.GaugeStates.{AreGaugesOf, IsGaugesOf}
use Rattle.rule_law.proofs.FourLemmas.{AreBetween}
use Rattle.fux_judge.proofs.gauges.gauge_all.Given as goal

abbrev pub invariant-loop-v : goal.invariant-loop-v
invariant-loop-v l = record {
  long : length l.kept ≡ 4;
  each :
      (behind : List (List Cell)) → length behind ≡ l.i → AreGaugesOf l.ex behind l.initial.kept
      → AreBetween (λ v kept. IsFree l.ex v → IsGaugesOf (line v (l.column ∷ behind)) kept)
      (λ v kept. IsFree l.ex v → IsGaugesOf (line v behind) kept) l.v l.kept;
}
