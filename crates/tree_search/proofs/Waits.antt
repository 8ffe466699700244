-- How often a number stands in a list.
use Rattle.std.proofs.Common.{◌≡◌, ◌≢◌, ℕ, ◌+◌, ◌<◌, List, [], ◌∷◌, length, cond, eqb, true, false, Bool, get_or, All, count_by, IsPermutation, zero, suc, refl, sym, subst, ◌∙◌, arith}
use Rattle.std.specs.List.{AllByRecursion}
use Rattle.std.proofs.lemmas.List.Recursion.{is_count_by}
use Rattle.std.proofs.lemmas.List.Sorted.{sum_by-IsPermutation}
use Rattle.std.proofs.lemmas.List.Elements.{recursion_from_All}
use Rattle.std.proofs.lemmas.Bool.Decides.{nat_tests}
use Rattle.std.proofs.lemmas.List.{get_or_default}
use Rattle.tree_search.specs.Fronts.{times}

times_is : (i : ℕ) (xs : List ℕ) → times i xs ≡ count_by (λ x. eqb x i) xs
times_is i xs = is_count_by (times i) (λ x. eqb x i) refl (λ _ _. refl) xs

pub times-permutation : (i : ℕ) (xs ys : List ℕ) → IsPermutation xs ys → times i ys ≡ times i xs
times-permutation i xs ys moved = times_is i ys ∙ sum_by-IsPermutation (λ x. cond (eqb x i) 1 0) xs ys moved
    ∙ sym (times_is i xs)

pub times-same : (i : ℕ) (xs : List ℕ) → times i (i ∷ xs) ≡ 1 + times i xs
times-same i xs = grind (arith, nat_tests)

pub times-other : (i x : ℕ) (xs : List ℕ) → x ≢ i → times i (x ∷ xs) ≡ times i xs
times-other i x xs differ = grind (arith, nat_tests)

-- what holds of all holds of each that stands there
each_at : (P : ℕ → Type 0) (xs : List ℕ) (i : ℕ) → AllByRecursion P xs → 0 < times i xs → P i
each_at P [] i h some = absurd (omega (arith, some))
each_at P (x ∷ xs) i h some = by_test (λ more. each_at P xs i h.1 more) (eqb x i) refl some
  where
    by_test : (0 < times i xs → P i) → (b : Bool) → eqb x i ≡ b → 0 < cond b (1 + times i xs) (times i xs) → P i
    by_test onward true e s = let same : x ≡ i = grind (arith, nat_tests) in subst P same h.0
    by_test onward false e s = onward s

pub All_at : (P : ℕ → Type 0) (xs : List ℕ) (i : ℕ) → All P xs → 0 < times i xs → P i
All_at P xs i all some = each_at P xs i (recursion_from_All P xs all) some

-- and the other way round
stands : (xs : List ℕ) (k : ℕ) → k < length xs → 0 < times (get_or xs k 0) xs
stands [] k within = absurd (omega (arith, within))
stands (x ∷ xs) zero within = omega (arith, times-same x xs)
stands (x ∷ xs) (suc k) within = by_test (stands xs k (omega (arith, within))) (eqb x (get_or xs k 0))
  where
    by_test : 0 < times (get_or xs k 0) xs → (b : Bool)
        → 0 < cond b (1 + times (get_or xs k 0) xs) (times (get_or xs k 0) xs)
    by_test h true = omega arith
    by_test h false = h

pub All_from : (P : ℕ → Type 0) (xs : List ℕ) → ((i : ℕ) → 0 < times i xs → P i) → All P xs
All_from P xs each = λ k d within. subst P (get_or_default xs k 0 d within)
    (each (get_or xs k 0) (stands xs k within))
