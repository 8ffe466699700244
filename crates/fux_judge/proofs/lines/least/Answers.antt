use Rattle.std.proofs.Common.{ℕ, arith}
use Rattle.rule_law.specs.Voices.{is_free}
use Rattle.fux_judge.specs.Gauges.{cells_of_voice, least_of_line}
use Rattle.fux_judge.proofs.LineLemmas.{sum_kept-on}
use Rattle.fux_judge.proofs.lines.least.Goals as goal

pub loop-v-preserved : goal.loop-v-preserved
loop-v-preserved c =
    let ex = c.args.ex.now in
    record {
      value = λ p st prefix.
          let f : ℕ → ℕ = λ v. least_of_line ex c.args.sheet.now v (cells_of_voice p v) in
          sum_kept-on f (is_free ex) c.loop-v.v ex.voices c.loop-v.sum c.least_of_voice-sum.result _
          (omega (arith, c.loop-v-test.true))
          (c.least_of_voice-sum.ensures.value p st prefix) (c.loop-v.invariant.value p st prefix);
      bound = omega (arith, c.loop-v.invariant.bound, c.least_of_voice-sum.ensures.bound);
    }
