use Rattle.std.proofs.Common.{◌+◌, ℕ, take, ap, sym, ◌∙◌, arith}
use Rattle.std.specs.List.{sum_by}
use Rattle.std.proofs.lemmas.List.Sums.{sum_by_more}
use Rattle.fux_judge.specs.Rules.{all_sets}
use Rattle.fux_judge.specs.Moments.{prices_then}
use Rattle.fux_judge.proofs.SumLemmas.{rule_in_range}
use Rattle.fux_judge.proofs.verdict.prices_of_each.Goals as goal

pub prices_now-price-requires-clause-rule : goal.prices_now-price-requires-clause-rule
prices_now-price-requires-clause-rule c =
    (rule_in_range c.args.rules.now c.loop-rule.rule-index c.requires.numbers (omega arith)).1

pub loop-rule-preserved : goal.loop-rule-preserved
loop-rule-preserved c = record {
  value = λ p after.
      let price : ℕ → ℕ = λ rule. prices_then all_sets rule p c.args.m.now in
      ap (λ n. n + c.prices_now-price.result) (c.loop-rule.invariant.value p after)
      ∙ ap (λ n. sum_by price (take c.loop-rule.rule-index c.args.rules.now) + n)
      (c.prices_now-price.ensures.value p after)
      ∙ sym (sum_by_more price c.args.rules.now c.loop-rule.rule-index 0 (omega arith));
  small = omega (arith, c.prices_now-price.ensures.bound);
}
