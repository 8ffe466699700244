use Rattle.std.proofs.Common.{◌≡◌, ◌≤◌, ◌<◌, ◌+◌, ℕ, Bool, true, false, zero, suc, ◌||◌, ap, sym, ◌∙◌, add-one, arith, inl, inr}
use Rattle.std.proofs.lemmas.Bool.{cases_lt, or_left, or_right}
use Rattle.fux_grid.specs.Cells.{pitch_of}
use Rattle.fux_grid.specs.Columns.{cell_at, earlier}
use Rattle.rule_law.specs.Growth.{any_below}
use Rattle.rhythm_cadence.specs.Inflections.{is_inflection, sounds_otherwise}
use Rattle.rhythm_cadence.specs.Rows.{holds_of_pitch}
use Rattle.rhythm_cadence.proofs.inflections.sounds_otherwise.Goals as goal

none_more : (test : ℕ → Bool) (k : ℕ) → any_below test k ≡ false → test k ≡ false → any_below test (k + 1) ≡ false
none_more test k h e =
    ap (any_below test) (add-one k) ∙ ap (λ b. b || test k) h ∙ e

some_below : (test : ℕ → Bool) (k n : ℕ) → k < n → test k ≡ true → any_below test n ≡ true
some_below test k zero h e = absurd (omega (arith, h))
some_below test k (suc n) h e = elim (cases_lt k n) [
  | inl below ↦ or_left (any_below test n) (test n) (some_below test k n below e)
  | inr past ↦
      let here : k ≡ n = omega (arith, past, h) in
      or_right (any_below test n) (test n) (ap test (sym here) ∙ e)
]

pub returns-then-sounds_so : goal.returns-then-sounds_so
unfolding sounds_otherwise
returns-then-sounds_so g c = λ s first shown from within.
    let test : ℕ → Bool = λ k.
    holds_of_pitch (is_inflection c.args.p) (pitch_of (cell_at (earlier s c.args.i) c.args.v k)) in
    sym (some_below test c.loop-k.k 16 (omega (arith, c.loop-k-test.true))
    (sym (c.sounds_so.ensures s first shown (omega (arith, from, c.loop-k-test.true)) within) ∙ c.if-sounds_so.true))

pub loop-k-preserved : goal.loop-k-preserved
loop-k-preserved g c = λ s first shown from within.
    let test : ℕ → Bool = λ k.
    holds_of_pitch (is_inflection c.args.p) (pitch_of (cell_at (earlier s c.args.i) c.args.v k)) in
    none_more test c.loop-k.k (c.loop-k.invariant s first shown from within)
    (sym (c.sounds_so.ensures s first shown (omega (arith, from, c.loop-k-test.true)) within) ∙ c.if-sounds_so.false)

pub returns : goal.returns
unfolding sounds_otherwise
returns g c = λ s first shown from within.
    let test : ℕ → Bool = λ k.
    holds_of_pitch (is_inflection c.args.p) (pitch_of (cell_at (earlier s c.args.i) c.args.v k)) in
    let end : c.loop-k.k ≡ 16 = omega (arith, c.loop-k-test.false) in
    sym (sym (ap (any_below test) end) ∙ c.loop-k.invariant s first shown from within)
