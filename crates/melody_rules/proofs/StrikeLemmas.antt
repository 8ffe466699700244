-- Each pitch has a place of its own, so one strike more changes one count.
use Rattle.std.proofs.Common.{◌≡◌, ◌≢◌, ℕ, zero, suc, ◌+◌, ◌/◌, ◌%◌, ◌<◌, ◌≤◌, ◌==◌, Bool, true, false, not, cond, List, [], ◌∷◌, length, replicate, refl, ap, sym, ◌∙◌, subst, arith, inl, inr}
use Rattle.std.specs.Prelude.{ℤ, pos, negsuc, ◌≤ℤ◌, count_by, nat_le, slice_index, slice_set}
use Rattle.std.proofs.lemmas.Bool.{and_from, cases_Bool, cases_lt, eq-eqb, eqb-false, eqb-true}
use Rattle.std.proofs.lemmas.Int.{ints}
use Rattle.std.proofs.lemmas.List.{get_or-replicate, get_or-set_same, get_or-set_other, get_or_past, length-replicate}
use Rattle.std.proofs.lemmas.List.Sums.{sum_by-cons}
use Rattle.fux_pitch.specs.declared.pitch.Pitch.{Pitch}
use Rattle.fux_pitch.specs.Pitch.{alter_of, degree_of, same_pitch}
use Rattle.fux_pitch.proofs.PitchLemmas.{equal_from_test, pitch_ext}
use Rattle.rule_law.proofs.MenuStarts.{as_number-bound}
use Rattle.melody_rules.specs.GaugeParts.{alter_place, count_at, half, place_in, unit, up_to_four}
use Rattle.melody_rules.specs.Gauges.{beyond_fourth}

-- the alteration of a place
alter_at : ℕ → ℤ
alter_at zero = negsuc 0
alter_at (suc zero) = pos 0
alter_at (suc (suc n)) = pos 1

alter_at-place : (a : ℤ) → negsuc 0 ≤ℤ a → a ≤ℤ pos 1 → alter_at (alter_place a) ≡ a
unfolding alter_at
alter_at-place (pos zero) low high = refl
alter_at-place (pos (suc zero)) low high = refl
alter_at-place (pos (suc (suc n))) low high = absurd (omega (arith, ints, high))
alter_at-place (negsuc zero) low high = refl
alter_at-place (negsuc (suc n)) low high = absurd (omega (arith, ints, low))

alter_place-bound : (a : ℤ) → alter_place a < 3
alter_place-bound a = grind arith

same-self : (p : Pitch) → same_pitch p p ≡ true
same-self p =
    and_from (p.degree == p.degree) (p.key == p.key) (eq-eqb p.degree p.degree refl) (eq-eqb p.key p.key refl)

-- two pitches of one place are one
place-one : (p q : Pitch) → place_in q ≡ place_in p → q ≡ p
place-one p q e =
    let least : 7 ≤ degree_of p = p.is_pitch.least_degree in
    let other : 7 ≤ degree_of q = q.is_pitch.least_degree in
    let a = alter_place-bound (alter_of p) in
    let b = alter_place-bound (alter_of q) in
    let degrees : degree_of q ≡ degree_of p = omega (arith, e, a, b, least, other) in
    let places : alter_place (alter_of q) ≡ alter_place (alter_of p) = omega (arith, e, a, b, least, other) in
    pitch_ext q p degrees
    (sym (alter_at-place (alter_of q) q.is_pitch.flat q.is_pitch.sharp) ∙ ap alter_at places
    ∙ alter_at-place (alter_of p) p.is_pitch.flat p.is_pitch.sharp)

place-other : (p q : Pitch) → same_pitch q p ≡ false → place_in q ≢ place_in p
place-other p q h e =
    let P : Pitch → Type 0 = λ x. same_pitch x p ≡ true in
    let same : same_pitch q p ≡ true = subst P (sym (place-one p q e)) (same-self p) in
    cc

-- a note more of one of two pitches, as the other is counted
one_more : (ps : List Pitch) (p q : Pitch) → same_pitch q p ≡ true → count_by (same_pitch q) (p ∷ ps)
    ≡ count_by (same_pitch p) ps + 1
one_more ps p q same =
    let one : q ≡ p = equal_from_test q p same in
    let counted : count_by (same_pitch q) ps ≡ count_by (same_pitch p) ps = ap (λ x. count_by (same_pitch x) ps) one in
    let step : count_by (same_pitch q) (p ∷ ps) ≡ 1 + count_by (same_pitch q) ps =
    sum_by-cons (λ x. cond (same_pitch q x) 1 0) p ps ∙ ap (λ b. cond b 1 0 + count_by (same_pitch q) ps) same in
    omega (arith, counted, step)

no_more : (ps : List Pitch) (p q : Pitch) → same_pitch q p ≡ false → count_by (same_pitch q) (p ∷ ps)
    ≡ count_by (same_pitch q) ps
no_more ps p q other =
    let step : count_by (same_pitch q) (p ∷ ps) ≡ 0 + count_by (same_pitch q) ps =
    sum_by-cons (λ x. cond (same_pitch q x) 1 0) p ps ∙ ap (λ b. cond b 1 0 + count_by (same_pitch q) ps) other in
    omega (arith, step)

-- ---- two counts of one number

half-more : (even : Bool) (n : ℕ) → half even n < 4 → half even (n + unit even) ≡ half even n + 1
half-more true n few = omega (arith, few)
half-more false n few = omega (arith, few)

half-other : (even : Bool) (n : ℕ) → half even n < 4 → half (not even) (n + unit even) ≡ half (not even) n
half-other true n few = omega (arith, few)
half-other false n few = omega (arith, few)

half-none : (even : Bool) → half even 0 ≡ 0
half-none true = omega arith
half-none false = omega arith

-- so there is room for one more
pub half-fits : (even : Bool) (n : ℕ) → n ≤ 255 → half even n < 4 → n + unit even ≤ 255
half-fits true n most few = omega (arith, most, few)
half-fits false n most few = omega (arith, most, few)

positive : (n : ℕ) → n ≢ 0 → 1 ≤ n
positive zero h = absurd (h refl)
positive (suc n) h = omega arith

parity : (j k : ℕ) → k ≢ j → k / 2 ≡ j / 2 → (k % 2 == 0) ≡ not (j % 2 == 0)
parity j k apart same = at (j % 2 == 0) (k % 2 == 0) refl refl
  where
    at : (a b : Bool) → (j % 2 == 0) ≡ a → (k % 2 == 0) ≡ b → b ≡ not a
    at true true e f =
        let mine : j % 2 ≡ 0 = eqb-true (j % 2) 0 e in
        let its : k % 2 ≡ 0 = eqb-true (k % 2) 0 f in
        absurd (apart (omega (arith, mine, its, same)))
    at true false e f = refl
    at false true e f = refl
    at false false e f =
        let mine : 1 ≤ j % 2 = positive (j % 2) (eqb-false (j % 2) 0 e) in
        let its : 1 ≤ k % 2 = positive (k % 2) (eqb-false (k % 2) 0 f) in
        absurd (apart (omega (arith, mine, its, same)))

-- one more at a place leaves the count at each other place
elsewhere : (counts : List ℕ) (j k more : ℕ) → k ≢ j → j / 2 < length counts
    → more ≡ slice_index counts (j / 2) + unit (j % 2 == 0) → count_at counts j < 4
    → count_at (slice_set counts (j / 2) more) k ≡ count_at counts k
elsewhere counts j k more apart within grown few =
    elim (cases_Bool (k / 2 == j / 2)) [
      | inl same ↦
          let shared : k / 2 ≡ j / 2 = eqb-true (k / 2) (j / 2) same in
          let turned : (k % 2 == 0) ≡ not (j % 2 == 0) = parity j k apart shared in
          let number = slice_index counts (j / 2) in
          ap (λ n. half (k % 2 == 0) (slice_index (slice_set counts (j / 2) more) n)) shared
          ∙ ap (half (k % 2 == 0)) (get_or-set_same counts (j / 2) more 0 within ∙ grown)
          ∙ ap (λ even. half even (number + unit (j % 2 == 0))) turned
          ∙ half-other (j % 2 == 0) number few
          ∙ ap (λ even. half even number) (sym turned)
          ∙ ap (λ n. half (k % 2 == 0) (slice_index counts n)) (sym shared)
      | inr other ↦
          let distinct : k / 2 ≢ j / 2 = eqb-false (k / 2) (j / 2) other in
          ap (half (k % 2 == 0)) (get_or-set_other counts (j / 2) (k / 2) more 0 distinct)
    ]

-- ---- strikes

-- the counts after one strike more of a pitch that was struck less than four times
pub struck : (ps : List Pitch) (counts : List ℕ) (p q : Pitch) (place more : ℕ) → place ≡ place_in p
    → place / 2 < length counts → more ≡ slice_index counts (place / 2) + unit (place % 2 == 0)
    → count_at counts place < 4 → count_at counts place ≡ up_to_four (count_by (same_pitch p) ps)
    → count_at counts (place_in q) ≡ up_to_four (count_by (same_pitch q) ps)
    → count_at (slice_set counts (place / 2) more) (place_in q) ≡ up_to_four (count_by (same_pitch q) (p ∷ ps))
struck ps counts p q place more at within grown few mine before =
    elim (cases_Bool (same_pitch q p)) [
      | inl same ↦
          let here : place_in q ≡ place = ap place_in (equal_from_test q p same) ∙ sym at in
          let found : count_at (slice_set counts (place / 2) more) (place_in q) ≡ count_at counts place + 1 =
          ap (count_at (slice_set counts (place / 2) more)) here
          ∙ ap (half (place % 2 == 0)) (get_or-set_same counts (place / 2) more 0 within ∙ grown)
          ∙ half-more (place % 2 == 0) (slice_index counts (place / 2)) few in
          omega (arith, found, few, mine, one_more ps p q same)
      | inr other ↦
          let apart : place_in q ≢ place = λ e. place-other p q other (e ∙ at) in
          let found : count_at (slice_set counts (place / 2) more) (place_in q) ≡ count_at counts (place_in q) =
          elsewhere counts place (place_in q) more apart within grown few in
          omega (arith, found, before, no_more ps p q other)
    ]

-- one strike more of a pitch that was struck four times leaves what is kept of each count
pub full_stays : (ps : List Pitch) (p q : Pitch) → 4 ≤ count_by (same_pitch p) ps
    → up_to_four (count_by (same_pitch q) ps) ≡ up_to_four (count_by (same_pitch q) (p ∷ ps))
full_stays ps p q full =
    elim (cases_Bool (same_pitch q p)) [
      | inl same ↦
          let counted : count_by (same_pitch q) ps ≡ count_by (same_pitch p) ps =
          ap (λ x. count_by (same_pitch x) ps) (equal_from_test q p same) in
          omega (arith, full, counted, one_more ps p q same)
      | inr other ↦ omega (arith, no_more ps p q other)
    ]

pub beyond-bound : (ps : List Pitch) → beyond_fourth ps ≤ length ps
beyond-bound [] = omega arith
beyond-bound (p ∷ ps) = omega (arith, beyond-bound ps, as_number-bound (nat_le 4 (count_by (same_pitch p) ps)))

-- before the first note each count is 0
pub unstruck : (place : ℕ) → count_at (replicate 74 0) place ≡ 0
unstruck place = ap (half (place % 2 == 0)) (nothing (place / 2)) ∙ half-none (place % 2 == 0)
  where
    nothing : (k : ℕ) → slice_index (replicate 74 0) k ≡ 0
    nothing k =
        elim (cases_lt k 74) [
          | inl within ↦ get_or-replicate 74 k 0 0 within
          | inr beyond ↦ get_or_past (replicate 74 0) k 0 (omega (arith, length-replicate {A = ℕ} 74 0))
        ]
