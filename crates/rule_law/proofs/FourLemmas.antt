-- What holds of four, one for each voice.
use Rattle.std.proofs.Common.{◌≡◌, ℕ, zero, suc, ◌+◌, ◌<◌, ◌≤◌, ⊎_elim, List, [], ◌∷◌, Some, length, get_or, set, ap, sym, subst, ◌∙◌, arith, length-set}
use Rattle.std.specs.Prelude.{slice_get}
use Rattle.std.proofs.lemmas.Bool.{cases_eq, cases_lt}
use Rattle.std.proofs.lemmas.List.{get_or-set_same, get_or-set_other}
use Rattle.std.proofs.lemmas.Option.{slice_get-get_or, slice_get_within}

-- what holds of four holds of each of them
pub each_of_four : {A : Type 0} (P : ℕ → A → Type 0) (a b c d : A) → P 0 a → P 1 b → P 2 c → P 3 d → (v : ℕ) (x : A)
    → slice_get (a ∷ b ∷ c ∷ d ∷ []) v ≡ Some x → P v x
each_of_four P a b c d pa pb pc pd zero x e = let same : a ≡ x = cc in subst (P 0) same pa
each_of_four P a b c d pa pb pc pd (suc zero) x e = let same : b ≡ x = cc in subst (P 1) same pb
each_of_four P a b c d pa pb pc pd (suc (suc zero)) x e = let same : c ≡ x = cc in subst (P 2) same pc
each_of_four P a b c d pa pb pc pd (suc (suc (suc zero))) x e = let same : d ≡ x = cc in subst (P 3) same pd
each_of_four P a b c d pa pb pc pd (suc (suc (suc (suc v)))) x e = cc

-- what holds of each of them holds of the one at a place
pub one_of_four : {A : Type 0} (P : ℕ → A → Type 0) (xs : List A) (v : ℕ) (default : A)
    → ((v : ℕ) (x : A) → slice_get xs v ≡ Some x → P v x) → length xs ≡ 4 → v < 4 → P v (get_or xs v default)
one_of_four P xs v default are four here = are v (get_or xs v default) (slice_get-get_or xs v default (omega arith))

-- before a place each has the one property, and from it on the other
abbrev pub AreBetween : {A : Type 0} → (ℕ → A → Type 0) → (ℕ → A → Type 0) → ℕ → List A → Type 0
AreBetween {A} Before From n xs =
    (v : ℕ) (x : A) → slice_get xs v ≡ Some x → (v < n → Before v x) × (n ≤ v → From v x)

-- the one at the place is replaced by one with the first property
pub between_more : {A : Type 0} (Before From : ℕ → A → Type 0) (n : ℕ) (xs : List A) (y : A) → n < length xs
    → Before n y → AreBetween Before From n xs → AreBetween Before From (n + 1) (set xs n y)
between_more Before From n xs y within new are v x e =
    ⊎_elim
    (λ same.
    let is : x ≡ y = read ∙ ap (λ i. get_or (set xs n y) i x) same ∙ get_or-set_same xs n y x within in (
      λ less. subst (λ i. Before i x) (sym same) (subst (Before n) (sym is) new),
      λ more. absurd (omega (arith, more, same)),
    ))
    (λ differ.
    let old : slice_get xs v ≡ Some x = slice_get-get_or xs v x (omega (arith, inside, length-set xs n y))
    ∙ ap Some (sym (read ∙ get_or-set_other xs n v y x differ)) in
    let h = are v x old in (
      λ less. h.0 (⊎_elim (λ lower. lower) (λ higher. absurd (differ (omega (arith, higher, less)))) (cases_lt v n)),
      λ more. h.1 (omega (arith, more)),
    ))
    (cases_eq v n)
  where
    inside : v < length (set xs n y)
    inside = slice_get_within (set xs n y) v x e

    read : x ≡ get_or (set xs n y) v x
    read = let g = sym e ∙ slice_get-get_or (set xs n y) v x inside in cc
