use Rattle.std.proofs.Common.{◌≡◌, ◌+◌, ℕ, ap, sym, ◌∙◌, add-one, length, arith}
use Rattle.std.specs.List.{sum_by}
use Rattle.rule_law.specs.Forms.{sets_of}
use Rattle.rule_law.specs.Growth.{sum_below}
use Rattle.fux_judge.specs.Penalties.{new_price}
use Rattle.fux_judge.specs.Rules.{rule_at}
use Rattle.fux_judge.specs.Steps.{sets_of_rule}
use Rattle.fux_judge.proofs.LateLemmas.{count_is, first_is, is_among}
use Rattle.fux_judge.proofs.late.prices_of_late.Goals as goal

pub loop-k-preserved : goal.loop-k-preserved
loop-k-preserved c = record {
  value = λ p col come.
      let ex = c.args.ex.now in
      let first = c.places_of-places.result.first in
      let count = c.places_of-places.result.count in
      let f = c.places_of-places.ensures.first in
      let n = c.places_of-places.ensures.count in
      let price : ℕ → ℕ = λ i. sum_by (new_price ex p col i c.args.rule) (sets_of_rule c.args.rule ex) in
      let of : ℕ → ℕ = λ k. price ((rule_at c.args.rule).first ex (length p) + k) in
      let sets = c.sets_of-sets.ensures.value ∙ ap (λ form. sets_of form ex.voices) c.form_of.ensures in
      let start = first_is (rule_at c.args.rule).first (rule_at c.args.rule).count ex c.args.next.now p col come first
      count f n in
      let here : c.prices_for-prices.result ≡ of c.loop-k.k =
      c.prices_for-prices.ensures.value p col come
      (is_among (rule_at c.args.rule).first (rule_at c.args.rule).count ex c.args.next.now p col come first count f
      n c.loop-k.k (omega (arith, c.loop-k-test.true)))
      ∙ ap (sum_by (new_price ex p col (first + c.loop-k.k) c.args.rule)) sets
      ∙ ap (λ x. price (x + c.loop-k.k)) start in
      ap (λ s. s + c.prices_for-prices.result) (c.loop-k.invariant.value p col come)
      ∙ ap (λ x. sum_below of c.loop-k.k + x) here
      ∙ sym (ap (sum_below of) (add-one c.loop-k.k));
  small = omega (arith, c.prices_for-prices.ensures.bound);
}

pub returns-clause-value : goal.returns-clause-value
returns-clause-value c = λ p col come.
    let ex = c.args.ex.now in
    let n = count_is (rule_at c.args.rule).first (rule_at c.args.rule).count ex c.args.next.now p col come
    c.places_of-places.result.first c.places_of-places.result.count c.places_of-places.ensures.first
    c.places_of-places.ensures.count in
    let end : c.loop-k.k ≡ (rule_at c.args.rule).count ex (length p) = omega (arith, n, c.loop-k-test.false) in
    c.loop-k.invariant.value p col come
    ∙ ap (sum_below (λ k. sum_by (new_price ex p col ((rule_at c.args.rule).first ex (length p) + k) c.args.rule)
    (sets_of_rule c.args.rule ex))) end
