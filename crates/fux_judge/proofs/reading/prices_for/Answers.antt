use Rattle.std.proofs.Common.{◌+◌, ℕ, length, take, ap, sym, ◌∙◌, arith}
use Rattle.std.specs.Prelude.{if◌then◌else◌}
use Rattle.std.specs.List.{sum_by}
use Rattle.std.proofs.lemmas.List.Sums.{sum_by_more}
use Rattle.fux_judge.specs.Penalties.{price_at_place}
use Rattle.fux_judge.specs.Moments.{is_broken_then}
use Rattle.fux_judge.proofs.reading.prices_for.Goals as goal

pub loop-bits-preserved : goal.loop-bits-preserved
loop-bits-preserved c = record {
  value = λ p after.
      let price : ℕ → ℕ = λ voices. if is_broken_then c.args.rule voices p c.args.m.now
      then price_at_place c.args.rule c.args.m.now.exercise.now voices (length p) else 0 in
      ap (λ n. n + c.price_of-price.result) (c.loop-bits.invariant.value p after)
      ∙ ap (λ n. sum_by price (take c.loop-bits.bits-index c.args.sets.now) + n)
      (c.price_of-price.ensures.value p after)
      ∙ sym (sum_by_more price c.args.sets.now c.loop-bits.bits-index 0 (omega arith));
  small = omega (arith, c.price_of-price.ensures.bound);
}
