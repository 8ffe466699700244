use Rattle.std.proofs.Common.{◌≡◌, sym, subst, inl, inr, arith}
use Rattle.std.proofs.lemmas.Bool.{cases_lt}
use Rattle.fux_judge.specs.Idle.{EndsNoQuaver}
use Rattle.fux_judge.proofs.idle.end_no_quaver.Goals as goal

pub loop-v-init : goal.loop-v-init
loop-v-init c = λ w less. absurd (omega (arith, less))

pub loop-v-preserved : goal.loop-v-preserved
loop-v-preserved c = λ w less.
    elim (cases_lt w c.loop-v.v) [
      | inl lower ↦ c.loop-v.invariant w lower
      | inr from ↦
          let same : w ≡ c.loop-v.v = omega (arith, less, from) in
          subst (EndsNoQuaver c.args.ex.now c.args.i) (sym same) (c.ends_no_quaver.ensures c.if-not-ends_no_quaver.false)
    ]

pub returns : goal.returns
returns c = λ yes v there. c.loop-v.invariant v (omega (arith, there, c.loop-v-test.false))
