use Rattle.fux_grid.specs.Columns.{earlier, line}
use Rattle.fux_judge.specs.GaugeStates.{IsGaugesOf}
use Rattle.fux_judge.proofs.gauges.line_gauges.Given as goal

abbrev pub invariant-loop-j : goal.invariant-loop-j
invariant-loop-j l = IsGaugesOf (line l.v (earlier l.score.columns l.j)) l.kept
