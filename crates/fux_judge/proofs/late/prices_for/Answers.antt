use Rattle.std.proofs.Common.{◌+◌, ℕ, take, ap, sym, ◌∙◌, arith}
use Rattle.std.specs.List.{sum_by}
use Rattle.std.proofs.lemmas.List.Sums.{sum_by_more}
use Rattle.fux_judge.specs.Penalties.{new_price}
use Rattle.fux_judge.proofs.late.prices_for.Goals as goal

pub loop-bits-preserved : goal.loop-bits-preserved
loop-bits-preserved c = record {
  value = λ p col come among.
      let price : ℕ → ℕ = new_price c.args.ex.now p col c.args.place c.args.rule in
      ap (λ n. n + c.price_settled-price.result) (c.loop-bits.invariant.value p col come among)
      ∙ ap (λ n. sum_by price (take c.loop-bits.bits-index c.args.sets.now) + n)
      (c.price_settled-price.ensures.value p col come among)
      ∙ sym (sum_by_more price c.args.sets.now c.loop-bits.bits-index 0 (omega arith));
  small = omega (arith, c.price_settled-price.ensures.bound);
}
