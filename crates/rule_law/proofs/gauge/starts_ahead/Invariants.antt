use Rattle.std.proofs.Common.{◌≡◌, ◌+◌, ◌≤◌}
use Rattle.rule_law.specs.Gauges.{starts_ahead}
use Rattle.rule_law.proofs.gauge.starts_ahead.Given as goal

abbrev pub invariant-loop-j : goal.invariant-loop-j
invariant-loop-j l = record {
  counted : l.count + starts_ahead l.ex l.v l.j ≡ starts_ahead l.ex l.v l.fn.i;
  few : l.count ≤ l.j;
}
