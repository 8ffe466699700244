-- Orderly lists are those in which S3 is nowhere broken, and what a column more settles of it.
use Rattle.std.proofs.Common.{◌≡◌, ℕ, ◌+◌, ◌-◌, ◌*◌, ◌/◌, ◌%◌, ◌^◌, ◌<◌, ◌≤◌, ◌==◌, Bool, true, false, ◌&&◌, List, [], ◌∷◌, ◌++◌, length, IsTrue, refl, ap, sym, ◌∙◌, subst, inl, inr, arith}
use Rattle.std.specs.Prelude.{Option, Some, None, not, nat_lt}
use Rattle.std.proofs.lemmas.Bool.{eqb-true, eq-eqb, ne_eqb, lt-ltb, not-false, cases_Bool, cases_eq, false_from_ne_true, both_ways}
use Rattle.std.proofs.lemmas.List.{length-append}
use Rattle.fux_grid.specs.declared.cell.Cell.{Cell}
use Rattle.fux_grid.specs.declared.exercise.Exercise.{Exercise}
use Rattle.fux_grid.specs.Exercises.{IsFree, bar_of}
use Rattle.fux_grid.specs.Letters.{letters_of, bar_columns}
use Rattle.fux_grid.specs.Orderly.{voice_shapes, HasBegun, IsOrderly}
use Rattle.fux_grid.specs.Shapes.{begins_shape}
use Rattle.fux_grid.proofs.OrderlyLemmas.{orderly-more}
use Rattle.rule_law.specs.Bars.{begins_bar}
use Rattle.rule_law.specs.Places.{reading_of}
use Rattle.rule_law.specs.Law.{below_from_test, first_true}
use Rattle.rule_law.specs.Growth.{newly}
use Rattle.rule_law.specs.Voices.{is_free, voice_of, holds_of_voice}
use Rattle.rhythm_cadence.specs.Rows.{broken_in, enough_after}
use Rattle.rhythm_cadence.proofs.Locality.{rhythm_breaks, rhythm_settles, rhythm_reads_on}
use Rattle.rhythm_cadence.specs.Parts.{newest_bar, newest_start}
use Rattle.rhythm_cadence.proofs.BarReadings.{keeps_shapes, reading-bar, reading-within_bar, break_is_settled, whole_bar-stays}
use Rattle.rhythm_cadence.proofs.NewestBars.{newest_bar-more}
use Rattle.rhythm_cadence.proofs.PartLemmas.{free_voice, voice_of-alone}

-- the column at which a bar begins is the start of that bar
start_of : (i : ℕ) → begins_bar i ≡ true → 8 * (bar_of i - 1) ≡ i
start_of i h = let e : i % 8 ≡ 0 = eqb-true (i % 8) 0 h in omega arith

none_leaves : (ex : Exercise) (p : List (List Cell)) (bar : ℕ) → IsOrderly ex p → HasBegun p bar → (voice : Option ℕ)
    → holds_of_voice ex (λ v. is_free ex v && not (keeps_shapes ex p bar v)) voice ≡ false
none_leaves ex p bar orderly begun None = refl
none_leaves ex p bar orderly begun (Some v) =
    fails (nat_lt v ex.voices) (is_free ex v) (keeps_shapes ex p bar v)
    (λ there free. orderly v bar (free_voice ex v there free) begun)
  where
    fails : (a b x : Bool) → (a ≡ true → b ≡ true → x ≡ true) → (a && (b && not x)) ≡ false
    fails true true x f = ap not (f refl refl)
    fails true false x f = refl
    fails false b x f = refl

-- in an orderly list S3 is nowhere broken
pub orderly-unbroken : (ex : Exercise) (p : List (List Cell)) → IsOrderly ex p → (voices i : ℕ) → i < length p
    → reading_of (broken_in 3 ex voices) p i ≡ false
orderly-unbroken ex p orderly voices i here =
    elim (cases_Bool (begins_bar i)) [
      | inl e ↦
          let begun : HasBegun p (bar_of i) = (omega arith, omega (arith, start_of i e)) in
          let P : ℕ → Type 0 = λ n. reading_of (broken_in 3 ex voices) p n ≡ false in
          subst P (start_of i e) (reading-bar ex voices p (bar_of i) begun
          ∙ none_leaves ex p (bar_of i) orderly begun (voice_of voices))
      | inr e ↦ reading-within_bar ex voices p i e
    ]

-- S3 of one free voice at a bar
pub reading-alone : (ex : Exercise) (v : ℕ) (p : List (List Cell)) (bar : ℕ) → v < 4 → IsFree ex v → HasBegun p bar
    → reading_of (broken_in 3 ex (2 ^ v)) p (8 * (bar - 1)) ≡ not (keeps_shapes ex p bar v)
reading-alone ex v p bar four free begun =
    reading-bar ex (2 ^ v) p bar begun
    ∙ ap (holds_of_voice ex (λ v. is_free ex v && not (keeps_shapes ex p bar v))) (voice_of-alone v four)
    ∙ ap (λ b. b && (is_free ex v && not (keeps_shapes ex p bar v))) (lt-ltb v ex.voices free.there)
    ∙ ap (λ b. not b && not (keeps_shapes ex p bar v)) (ne_eqb v ex.cantus_voice free.no_cantus)

-- a list in which S3 is broken at no bar is orderly
pub unbroken-orderly : (ex : Exercise) (p : List (List Cell)) → ex.voices ≤ 4
    → ((v bar : ℕ) → v < 4 → HasBegun p bar → reading_of (broken_in 3 ex (2 ^ v)) p (8 * (bar - 1)) ≡ false)
    → IsOrderly ex p
unbroken-orderly ex p four unbroken v bar free begun =
    let below : v < 4 = omega (arith, free.there) in
    not-false (keeps_shapes ex p bar v) (sym (reading-alone ex v p bar below free begun) ∙ unbroken v bar below begun)

-- a list stays orderly with a column more where S3 isn't broken at the newest bar
pub orderly-step : (ex : Exercise) (p : List (List Cell)) (col : List Cell) → ex.voices ≤ 4 → IsOrderly ex p
    → ((v : ℕ) → v < 4 → reading_of (broken_in 3 ex (2 ^ v)) (p ++ col ∷ []) (newest_start (p ++ col ∷ [])) ≡ false)
    → IsOrderly ex (p ++ col ∷ [])
orderly-step ex p col four orderly unbroken =
    orderly-more ex p col orderly (λ v free.
    let below : v < 4 = omega (arith, free.there) in
    let begun : HasBegun (p ++ col ∷ []) (newest_bar (p ++ col ∷ [])) = (
      omega arith,
      omega
          (arith, length-append p (col ∷ [])),
    ) in
    let P : ℕ → Type 0 = λ bar. IsTrue (begins_shape (voice_shapes ex v bar)
    (letters_of v (bar_columns (p ++ col ∷ []) bar))) in
    subst P (newest_bar-more p col)
    (not-false (keeps_shapes ex (p ++ col ∷ []) (newest_bar (p ++ col ∷ [])) v)
    (sym (reading-alone ex v (p ++ col ∷ []) (newest_bar (p ++ col ∷ [])) below free begun) ∙ unbroken v below)))

-- after an orderly list a column settles a break of S3 at the beginning of its bar, or none
same_at_break : (n s b : Bool) → (b ≡ true → n ≡ s) → (n && b) ≡ (s && b)
same_at_break n s true f = ap (λ x. x && true) (f refl)
same_at_break true true false f = refl
same_at_break true false false f = refl
same_at_break false true false f = refl
same_at_break false false false f = refl

not_settled_before : (ex : Exercise) (p : List (List Cell)) (col : List Cell) → IsOrderly ex p → (voices i : ℕ)
    → rhythm_breaks 3 ex voices (p ++ col ∷ []) i ≡ true → rhythm_settles 3 ex voices p i ≡ false
not_settled_before ex p col orderly voices i broken =
    false_from_ne_true (rhythm_settles 3 ex voices p i) (λ s.
    both_ways (rhythm_breaks 3 ex voices p i)
    (orderly-unbroken ex p orderly voices i
    (below_from_test i (length p) (first_true (nat_lt i (length p)) (reading_of (enough_after 3 ex voices) p i) s)))
    (sym (rhythm_reads_on 3 ex voices p (col ∷ []) i s) ∙ broken))

-- S3 isn't broken at an earlier bar, once the list was orderly
unbroken_before : (ex : Exercise) (p : List (List Cell)) (col : List Cell) → IsOrderly ex p → (voices i : ℕ)
    → i < length (p ++ col ∷ []) → begins_bar i ≡ true → (i ≡ newest_start (p ++ col ∷ []) → ⊥)
    → rhythm_breaks 3 ex voices (p ++ col ∷ []) i ≡ false
unbroken_before ex p col orderly voices i here begins other =
    let whole : 8 * bar_of i ≤ length p = earlier_bar i (length p) (eqb-true (i % 8) 0 begins)
    (omega (arith, length-append p (col ∷ [])))
    (λ e. other (e ∙ ap (λ bar. 8 * (bar - 1)) (sym (newest_bar-more p col)))) in
    let P : ℕ → Type 0 = λ n. rhythm_breaks 3 ex voices (p ++ col ∷ []) n ≡ false in
    subst P (start_of i begins)
    (whole_bar-stays ex voices p (col ∷ []) (bar_of i) (omega arith) whole
    ∙ orderly-unbroken ex p orderly voices (8 * (bar_of i - 1)) (omega arith))
  where
    earlier_bar : (i n : ℕ) → i % 8 ≡ 0 → i ≤ n → (i ≡ 8 * (n / 8 + 1 - 1) → ⊥) → 8 * (i / 8 + 1) ≤ n
    earlier_bar i n h k other = omega arith

not_newly : (ex : Exercise) (p : List (List Cell)) (col : List Cell) → IsOrderly ex p → (voices i : ℕ)
    → (i ≡ newest_start (p ++ col ∷ []) → ⊥) → rhythm_breaks 3 ex voices (p ++ col ∷ []) i ≡ true
    → rhythm_settles 3 ex voices (p ++ col ∷ []) i ≡ false
not_newly ex p col orderly voices i other broken =
    false_from_ne_true (rhythm_settles 3 ex voices (p ++ col ∷ []) i) (λ s.
    let here : i < length (p ++ col ∷ []) = below_from_test i (length (p ++ col ∷ []))
    (first_true (nat_lt i (length (p ++ col ∷ []))) (reading_of (enough_after 3 ex voices) (p ++ col ∷ []) i) s) in
    elim (cases_Bool (begins_bar i)) [
      | inl e ↦ both_ways (rhythm_breaks 3 ex voices (p ++ col ∷ []) i)
          (unbroken_before ex p col orderly voices i here e other) broken
      | inr e ↦ both_ways (rhythm_breaks 3 ex voices (p ++ col ∷ []) i)
          (reading-within_bar ex voices (p ++ col ∷ []) i e) broken
    ])

pub newly_broken : (ex : Exercise) (p : List (List Cell)) (col : List Cell) → IsOrderly ex p → (voices i : ℕ)
    → (newly (rhythm_settles 3 ex voices) p col i && rhythm_breaks 3 ex voices (p ++ col ∷ []) i)
    ≡ ((i == newest_start (p ++ col ∷ [])) && rhythm_breaks 3 ex voices (p ++ col ∷ []) i)
newly_broken ex p col orderly voices i =
    same_at_break (newly (rhythm_settles 3 ex voices) p col i) (i == newest_start (p ++ col ∷ []))
    (rhythm_breaks 3 ex voices (p ++ col ∷ []) i) (λ broken.
    elim (cases_eq i (newest_start (p ++ col ∷ []))) [
      | inl e ↦
          ap (λ b. b && not (rhythm_settles 3 ex voices p i))
          (break_is_settled ex voices (p ++ col ∷ []) i (omega (arith, e, length-append p (col ∷ []))) broken)
          ∙ ap not (not_settled_before ex p col orderly voices i broken)
          ∙ sym (eq-eqb i (newest_start (p ++ col ∷ [])) e)
      | inr other ↦
          ap (λ b. b && not (rhythm_settles 3 ex voices p i)) (not_newly ex p col orderly voices i other broken)
          ∙ sym (ne_eqb i (newest_start (p ++ col ∷ [])) other)
    ])
