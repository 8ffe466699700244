use Rattle.std.proofs.Common.{◌≡◌, ℕ, subst, inl, inr, arith}
use Rattle.std.proofs.lemmas.Bool.{cases_lt}
use Rattle.dissonance_rules.specs.Starts.{IsTelling}
use Rattle.dissonance_rules.proofs.told.told_places.Goals as goal

pub loop-v-init : goal.loop-v-init
loop-v-init c = record {
  from = omega arith;
  to = omega arith;
  told = λ w i less is first before within. absurd (omega (arith, less));
}

pub loop-v-preserved : goal.loop-v-preserved
loop-v-preserved c = record {
  from = c.with_told-places.ensures.from c.loop-v.invariant.from;
  to = c.with_told-places.ensures.to;
  told = λ w i less is first before within. elim (cases_lt w c.loop-v.v) [
    | inl earlier ↦
        c.with_told-places.ensures.kept i (c.loop-v.invariant.told w i earlier is first before within)
    | inr last ↦
        let same : w ≡ c.loop-v.v = omega (arith, last, less) in
        let P : ℕ → Type 0 = λ v. IsTelling c.args.ex.now c.args.voices.now c.args.last i v in
        c.with_told-places.ensures.told i (subst P same is) first before within
  ];
}

pub returns-clause-told : goal.returns-clause-told
returns-clause-told c = λ v i is first before within.
    c.loop-v.invariant.told v i (omega (arith, is.there, c.loop-v-test.false)) is first before within
