use Rattle.std.proofs.Common.{◌≡◌, ◌≤◌, ◌*◌, take}
use Rattle.std.specs.Prelude.{if◌then◌else◌}
use Rattle.std.specs.List.{sum_by}
use Rattle.fux_judge.specs.Penalties.{price_at_place}
use Rattle.fux_judge.specs.Rules.{is_broken}
use Rattle.fux_judge.proofs.total.prices_of_rule.Given as goal

abbrev pub invariant-loop-bits : goal.invariant-loop-bits
invariant-loop-bits l = record {
  value : l.sum ≡ sum_by (λ voices. if is_broken l.rule l.ex voices l.score.columns l.i
      then price_at_place l.rule l.ex voices l.i else 0) (take l.bits-index l.bits-items);
  small : l.sum ≤ 10000 * l.bits-index;
}
