use Rattle.std.proofs.Common.{ℕ, arith}
use Rattle.rule_law.specs.Voices.{is_free}
use Rattle.fux_judge.proofs.LineLemmas.{sum_kept-on}
use Rattle.priced_floors.specs.Fairness.{debt_of}
use Rattle.priced_floors.specs.Charges.{prices_of, summit_of}
use Rattle.priced_floors.proofs.charges.debt_in.Goals as goal

pub loop-v-preserved : goal.loop-v-preserved
loop-v-preserved c =
    let charges = c.args.charges.now in
    let f : ℕ → ℕ = λ v. debt_of (prices_of charges c.args.case v) (summit_of charges c.args.case v) in
    record {
      value = sum_kept-on f (is_free c.args.ex.now) c.loop-v.v c.args.ex.now.voices c.loop-v.sum
          c.debt_of_voice-sum.result _ (omega (arith, c.loop-v-test.true)) c.debt_of_voice-sum.ensures.value
          c.loop-v.invariant.value;
      small = omega (arith, c.loop-v.invariant.small, c.debt_of_voice-sum.ensures.small);
    }
