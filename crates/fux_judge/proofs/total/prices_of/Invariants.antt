use Rattle.std.proofs.Common.{◌≡◌, ◌≤◌, ◌*◌, take}
use Rattle.std.specs.Prelude.{if◌then◌else◌}
use Rattle.std.specs.List.{sum_by}
use Rattle.fux_judge.specs.Penalties.{price_at_place}
use Rattle.fux_judge.specs.Rules.{all_sets, is_broken}
use Rattle.fux_judge.proofs.total.prices_of.Given as goal

abbrev pub invariant-loop-rule : goal.invariant-loop-rule
invariant-loop-rule l = record {
  value : l.sum ≡ sum_by (λ rule. sum_by (λ voices. if is_broken rule l.ex voices l.score.columns l.i
      then price_at_place rule l.ex voices l.i else 0) all_sets) (take l.rule-index l.rule-items);
  small : l.sum ≤ 60000 * l.rule-index;
}
