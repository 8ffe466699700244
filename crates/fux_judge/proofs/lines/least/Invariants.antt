use Rattle.std.proofs.Common.{◌≡◌, ◌≤◌, ◌+◌, ◌-◌, ◌*◌, List}
use Rattle.std.specs.List.{filter, range_with_len, sum_by}
use Rattle.fux_grid.specs.declared.cell.Cell.{Cell}
use Rattle.rule_law.specs.Prefixes.{IsPrefix}
use Rattle.rule_law.specs.Voices.{is_free}
use Rattle.fux_judge.specs.Gauges.{cells_of_voice, least_of, least_of_line}
use Rattle.fux_judge.specs.States.{IsStateOf}
use Rattle.fux_judge.proofs.lines.least.Given as goal

abbrev pub invariant-loop-v : goal.invariant-loop-v
invariant-loop-v l = record {
  value : (p : List (List Cell)) → IsStateOf l.ex p l.state → IsPrefix l.ex p
      → l.sum + sum_by (λ v. least_of_line l.ex l.sheet v (cells_of_voice p v))
      (filter (is_free l.ex) (range_with_len l.v (l.ex.voices - l.v))) ≡ least_of l.ex l.sheet p;
  bound : l.sum ≤ l.v * 83622660;
}
