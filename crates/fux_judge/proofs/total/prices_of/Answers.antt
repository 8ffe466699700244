use Rattle.std.proofs.Common.{◌+◌, ℕ, ap, sym, ◌∙◌, take, arith}
use Rattle.std.specs.Prelude.{if◌then◌else◌}
use Rattle.std.specs.List.{sum_by}
use Rattle.std.proofs.lemmas.List.{take_all}
use Rattle.std.proofs.lemmas.List.Sums.{sum_by_more}
use Rattle.fux_judge.specs.Penalties.{price_at_place}
use Rattle.fux_judge.specs.Rules.{all_sets, is_broken}
use Rattle.fux_judge.proofs.total.prices_of.Goals as goal

pub loop-rule-preserved : goal.loop-rule-preserved
loop-rule-preserved c = record {
  value =
      let prices : ℕ → ℕ = λ rule. sum_by (λ voices.
      if is_broken rule c.args.ex.now voices c.args.score.now.columns c.args.i
      then price_at_place rule c.args.ex.now voices c.args.i else 0) all_sets in
      ap (λ n. n + c.prices_of_rule-prices.result) c.loop-rule.invariant.value
      ∙ ap (λ n. sum_by prices (take c.loop-rule.rule-index c.every_rule-rule-items.result.now) + n)
      c.prices_of_rule-prices.ensures.value
      ∙ sym (sum_by_more prices c.every_rule-rule-items.result.now c.loop-rule.rule-index 0
      (omega (arith, c.loop-rule-test.true)));
  small = omega (arith, c.prices_of_rule-prices.ensures.bound);
}

pub returns-clause-value : goal.returns-clause-value
returns-clause-value c =
    let prices : ℕ → ℕ = λ rule. sum_by (λ voices.
    if is_broken rule c.args.ex.now voices c.args.score.now.columns c.args.i
    then price_at_place rule c.args.ex.now voices c.args.i else 0) all_sets in
    c.loop-rule.invariant.value ∙ ap (sum_by prices)
    (take_all c.loop-rule.rule-index c.every_rule-rule-items.result.now (omega (arith, c.loop-rule-test.false)))
    ∙ ap (sum_by prices) c.every_rule-rule-items.ensures.value
