use Rattle.std.proofs.Common.{ℕ}
use Rattle.fux_grid.specs.Exercises.{IsFree}
use Rattle.fux_judge.specs.declared.ahead.LineAhead.{LineAhead}
use Rattle.fux_judge.specs.GaugeStates.{IsAheadOf}
use Rattle.rule_law.proofs.FourLemmas.{each_of_four}
use Rattle.fux_judge.proofs.ahead.all_ahead_at_start.Goals as goal

pub returns : goal.returns
returns c = λ valid prefix v ahead free there.
    let P : ℕ → LineAhead → Type 0 = λ v x. IsFree c.args.ex.now v → IsAheadOf c.args.ex.now v 0 x in
    each_of_four P _ _ _ _ (c.ahead_at_start.ensures valid) (c.ahead_at_start-2.ensures valid)
    (c.ahead_at_start-3.ensures valid) (c.ahead_at_start-4.ensures valid) v ahead there free
