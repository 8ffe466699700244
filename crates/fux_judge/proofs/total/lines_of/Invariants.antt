use Rattle.std.proofs.Common.{◌≡◌, ◌≤◌, ◌+◌, ◌-◌, ◌*◌}
use Rattle.std.specs.List.{filter, range_with_len, sum_by}
use Rattle.rule_law.specs.Voices.{is_free}
use Rattle.fux_judge.specs.Gauges.{cells_of_voice, cost_of_line, gauges_of}
use Rattle.fux_judge.proofs.total.lines_of.Given as goal

abbrev pub invariant-loop-v : goal.invariant-loop-v
invariant-loop-v l = record {
  value : l.sum + sum_by (λ v. cost_of_line l.sheet (cells_of_voice l.score.columns v))
      (filter (is_free l.ex) (range_with_len l.v (l.ex.voices - l.v))) ≡ gauges_of l.ex l.sheet l.score.columns;
  bound : l.sum ≤ l.v * 83622660;
}
