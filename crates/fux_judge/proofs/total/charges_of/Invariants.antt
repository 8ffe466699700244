use Rattle.std.proofs.Common.{◌≡◌, ◌≤◌, ◌*◌, ◌+◌}
use Rattle.rule_law.specs.Growth.{sum_below}
use Rattle.fux_judge.specs.Penalties.{prices_at, tolls_at}
use Rattle.fux_judge.proofs.total.charges_of.Given as goal

abbrev pub invariant-loop-i : goal.invariant-loop-i
invariant-loop-i l = record {
  value : l.sum ≡ sum_below (λ i. tolls_at l.ex l.sheet l.score.columns i + prices_at l.ex l.score.columns i) l.i;
  small : l.sum ≤ 5629413635476500 * l.i;
}
