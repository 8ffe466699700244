use Rattle.fux_grid.specs.Columns.{earlier, line}
use Rattle.score_marker.proofs.weighing.kept_of_line.Given as goal

abbrev pub invariant-loop-j : goal.invariant-loop-j
invariant-loop-j g l = g.G.Gauge.is_of (line l.v (earlier l.score.columns l.j)) l.kept
