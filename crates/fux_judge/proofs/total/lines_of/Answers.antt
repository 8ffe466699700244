use Rattle.std.proofs.Common.{ℕ, arith}
use Rattle.rule_law.specs.Voices.{is_free}
use Rattle.fux_judge.specs.Gauges.{cells_of_voice, cost_of_line}
use Rattle.fux_judge.proofs.LineLemmas.{sum_kept-on}
use Rattle.fux_judge.proofs.total.lines_of.Goals as goal

pub loop-v-preserved : goal.loop-v-preserved
loop-v-preserved c =
    let ex = c.args.ex.now in
    let f : ℕ → ℕ = λ v. cost_of_line c.args.sheet.now (cells_of_voice c.args.score.now.columns v) in
    record {
      value = sum_kept-on f (is_free ex) c.loop-v.v ex.voices c.loop-v.sum c.line_of-sum.result _
          (omega (arith, c.loop-v-test.true)) c.line_of-sum.ensures.value c.loop-v.invariant.value;
      bound = omega (arith, c.loop-v.invariant.bound, c.line_of-sum.ensures.bound);
    }
