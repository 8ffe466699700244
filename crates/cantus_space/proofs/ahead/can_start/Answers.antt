use Rattle.std.proofs.Common.{◌≡◌, ap, sym, ◌∙◌, arith, inl, inr}
use Rattle.std.proofs.lemmas.Bool.{cases_lt}
use Rattle.cantus_space.specs.Cantus.{may_sound}
use Rattle.cantus_space.proofs.AheadLemmas.{none_starts, some_starts}
use Rattle.cantus_space.proofs.ahead.can_start.Goals as goal

pub returns-then-may_sound : goal.returns-then-may_sound
returns-then-may_sound c =
    sym (some_starts c.args.plan.now c.args.bar c.loop-k.k (omega (arith, c.loop-k-test.true))
    (ap (may_sound c.args.plan.now c.args.bar) (sym c.numbered_pitch.ensures) ∙ sym c.may_sound.ensures
    ∙ c.if-may_sound.true))

pub loop-k-preserved : goal.loop-k-preserved
loop-k-preserved c = λ n below.
    elim (cases_lt n c.loop-k.k) [
      | inl h ↦ c.loop-k.invariant n h
      | inr h ↦ (let same : n ≡ c.loop-k.k = omega (arith, h, below) in
          rw same (ap (may_sound c.args.plan.now c.args.bar) (sym c.numbered_pitch.ensures) ∙ sym c.may_sound.ensures
          ∙ c.if-may_sound.false))
    ]

pub returns : goal.returns
returns c =
    sym (none_starts c.args.plan.now c.args.bar (λ n h. c.loop-k.invariant n (omega (arith, h, c.loop-k-test.false))))
