-- A sum over a list without repetition, whose members are all in another list, is no more than the
-- sum over that one (`sum-within`), so it isn't longer (`length-within`).
use Rattle.std.proofs.Common.{◌≡◌, ◌≢◌, ℕ, zero, suc, ◌+◌, ◌<◌, ◌≤◌, List, [], ◌∷◌, ◌++◌, length, get_or, take, drop, AllPairs, Contains, sum_by, refl, sym, ap, subst, ◌∙◌, ⊎_elim, arith, drop-cons, take-append-drop}
use Rattle.std.proofs.lemmas.List.Elements.{Contains-append_cases, Contains-append_left, Contains-append_right}
use Rattle.std.proofs.lemmas.List.Sums.{sum_by-append, sum_by-cons}

-- a list before and after one of its members
record IsSplit {X : Type 0} (xs : List X) (x : X) : Type 0 where
  before : List X
  after : List X
  is : xs ≡ before ++ x ∷ after

split_at : {X : Type 0} (xs : List X) (x : X) → Contains xs x → IsSplit xs x
split_at xs x there =
    let k = there.0 in
    record {
      before = take k xs;
      after = drop (suc k) xs;
      is = sym (take-append-drop k xs)
          ∙ ap (λ l. take k xs ++ l) (drop-cons xs k x there.1 ∙ ap (λ y. y ∷ drop (suc k) xs) there.2);
    }

-- the only member of a list of one
only : {X : Type 0} (x y : X) → Contains (x ∷ []) y → x ≡ y
only {X} x y there = by there.0 there.1 there.2
  where
    by : (k : ℕ) → k < 1 → get_or (x ∷ []) k y ≡ y → x ≡ y
    by zero l e = e
    by (suc k) l e = absurd (omega (arith, l))

module _ {X : Type 0} (f : X → ℕ) where
  pub sum-within : (xs ys : List X) → AllPairs (λ x y. x ≢ y) xs → ((x : X) → Contains xs x → Contains ys x)
      → sum_by f xs ≤ sum_by f ys
  sum-within [] ys once inside = omega arith
  sum-within (x ∷ xs) ys once inside =
      let first : Contains (x ∷ xs) x = (0, omega arith, refl) in
      let s = split_at ys x (inside x first) in
      let rest = sum-within xs (s.before ++ s.after) (λ i j d l m. once (suc i) (suc j) d (omega (arith, l)) (omega (arith, m)))
      (λ y there. other s.before s.after y there (subst (λ (l : List X). Contains l y) s.is (inside y (Contains-append_right (x ∷ []) xs y there)))) in
      omega (
        arith,
        rest,
        sum_by-cons f x xs,
        sum_by-append f s.before s.after,
        ap (sum_by f) s.is,
        sum_by-append f s.before (x ∷ s.after),
        sum_by-cons f x s.after,
      )
    where
      behind : (y : X) → Contains xs y → (after : List X) → Contains (x ∷ after) y → Contains after y
      behind y there after h = ⊎_elim
          (λ one. absurd (once 0 (suc there.0) y (omega arith) (omega (arith, there.1)) (only x y one ∙ sym there.2)))
          (λ more. more)
          (Contains-append_cases (x ∷ []) after y h)

      other : (before after : List X) (y : X) → Contains xs y → Contains (before ++ x ∷ after) y → Contains (before ++ after) y
      other before after y there h = ⊎_elim
          (λ left. Contains-append_left before after y left)
          (λ right. Contains-append_right before after y (behind y there after right))
          (Contains-append_cases before (x ∷ after) y h)

sum-ones : {X : Type 0} (xs : List X) → sum_by (λ _. 1) xs ≡ length xs
sum-ones [] = refl
sum-ones (x ∷ xs) = omega (arith, sum_by-cons (λ _. 1) x xs, sum-ones xs)

pub length-within : {X : Type 0} (xs ys : List X) → AllPairs (λ x y. x ≢ y) xs
    → ((x : X) → Contains xs x → Contains ys x) → length xs ≤ length ys
length-within xs ys once inside =
    omega (arith, sum-within (λ _. 1) xs ys once inside, sum-ones xs, sum-ones ys)
