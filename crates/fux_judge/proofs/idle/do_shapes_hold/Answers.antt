use Rattle.std.proofs.Common.{◌≡◌, ℕ, true, sym, ◌∙◌, subst, inl, inr, arith}
use Rattle.std.proofs.lemmas.Bool.{cases_lt}
use Rattle.fux_grid.specs.Exercises.{bar_of, slot_of}
use Rattle.fux_grid.specs.Orderly.{voice_shapes}
use Rattle.rhythm_cadence.specs.Parts.{all_have}
use Rattle.fux_judge.proofs.idle.do_shapes_hold.Goals as goal

pub loop-v-init : goal.loop-v-init
loop-v-init c = λ w less. absurd (omega (arith, less))

pub loop-v-preserved : goal.loop-v-preserved
loop-v-preserved c = λ w less.
    elim (cases_lt w c.loop-v.v) [
      | inl lower ↦ c.loop-v.invariant w lower
      | inr from ↦
          let same : w ≡ c.loop-v.v = omega (arith, less, from) in
          let Hold : ℕ → Type 0 = λ u. all_have (slot_of c.args.i) 72 (voice_shapes c.args.ex.now u (bar_of c.args.i)) ≡ true in
          subst Hold (sym same) (sym c.holds_there.ensures ∙ c.if-not-holds_there.false)
    ]

pub returns : goal.returns
returns c = λ yes v there. c.loop-v.invariant v (omega (arith, there, c.loop-v-test.false))
