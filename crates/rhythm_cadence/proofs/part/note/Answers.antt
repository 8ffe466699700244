use Rattle.std.proofs.Common.{◌≡◌, ◌<◌, ◌∷◌, ◌++◌, [], ℕ, length, refl, rules, ap, set, sym, subst, ◌∙◌, inl, inr, arith, length-set}
use Rattle.std.specs.Prelude.{slice_index}
use Rattle.std.proofs.lemmas.Bool.{cases_lt}
use Rattle.std.proofs.lemmas.List.{get_or-set_same, get_or-set_other}
use Rattle.fux_grid.specs.Exercises.{IsFree}
use Rattle.rhythm_cadence.specs.Parts.{shapes_after, shapes_begun}
use Rattle.rhythm_cadence.proofs.PartLemmas.{set-more}
use Rattle.rhythm_cadence.proofs.part.note.Goals as goal

pub loop-v-init : goal.loop-v-init
loop-v-init c = record {
  long = search rules;
  done = λ p here is w less. absurd (omega (arith, less));
  left = λ w more. refl;
}

pub loop-v-preserved : goal.loop-v-preserved
loop-v-preserved c =
    let ex = c.args.ex.now in
    let col = c.args.col.now in
    let v = c.loop-v.v in
    let old = c.loop-v.part.possible in
    let new = c.keep_if_free.new.possible in
    let within : v < length old = omega
    (arith, c.loop-v-test.true, c.requires.valid.most_voices, c.loop-v.invariant.long) in
    record {
      long = length-set old v new ∙ c.loop-v.invariant.long;
      done = λ p here is w less free.
          elim (cases_lt w v) [
            | inl lower ↦
                get_or-set_other old v w new 0 (λ same. omega (arith, lower, same))
                ∙ c.loop-v.invariant.done p here is w lower free
            | inr from ↦
                let same : w ≡ v = omega (arith, less, from) in
                let one : IsFree ex v = subst (IsFree ex) same free in
                let Has : ℕ → Type 0 = λ n. slice_index (set old v new) n ≡ shapes_begun ex n (p ++ col ∷ []) in
                subst Has (sym same)
                (get_or-set_same old v new 0 within
                ∙ c.keep_if_free.ensures one
                ∙ ap (shapes_after ex v c.args.i (slice_index old v)) c.cell_of-cell.ensures
                ∙ set-more ex p col v c.args.i (slice_index old v) here
                (λ some. c.loop-v.invariant.left v (omega arith) ∙ is v some one))
          ];
      left = λ w more.
          get_or-set_other old v w new 0 (λ same. omega (arith, more, same))
          ∙ c.loop-v.invariant.left w (omega (arith, more));
    }

pub returns : goal.returns
returns c = λ p here is w some free.
    c.loop-v.invariant.done p here is w (omega (arith, free.there, c.loop-v-test.false)) free
