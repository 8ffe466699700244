-- A list in two parts: what passes a test, and the others.
use Rattle.std.specs.Prelude.{◌≡◌, ℕ, ◌+◌, Bool, true, false, not, ◌&&◌, ◌||◌, List, [], ◌∷◌, if◌then◌else◌, refl}
use Rattle.std.specs.List.{filter, list_all, list_any, sum_by}
use Rattle.std.proofs.Common.{ap, sym, ◌∙◌, arith}
use Rattle.std.proofs.lemmas.List.Sums.{sum_by-cons}

-- a test passes for some of a list where it does for some of those that are kept, or for some of
-- the others
pub list_any-parted : (test keep : ℕ → Bool) (xs : List ℕ) → list_any test xs
    ≡ (list_any test (filter (λ x. not (keep x)) xs) || list_any test (filter keep xs))
list_any-parted test keep [] = refl
list_any-parted test keep (x ∷ xs) = at (keep x) (list_any-parted test keep xs)
  where
    others : List ℕ
    others = filter (λ x. not (keep x)) xs

    kept : List ℕ
    kept = filter keep xs

    in_front : (t a b : Bool) → (t || (a || b)) ≡ (a || (t || b))
    in_front true true b = refl
    in_front true false b = refl
    in_front false a b = refl

    grouped : (t a b : Bool) → (t || (a || b)) ≡ ((t || a) || b)
    grouped true a b = refl
    grouped false a b = refl

    at : (k : Bool) → list_any test xs ≡ (list_any test others || list_any test kept) → (test x || list_any test xs)
        ≡ (list_any test (if not k then x ∷ others else others) || list_any test (if k then x ∷ kept else kept))
    at true e = ap (λ b. test x || b) e ∙ in_front (test x) (list_any test others) (list_any test kept)
    at false e = ap (λ b. test x || b) e ∙ grouped (test x) (list_any test others) (list_any test kept)

-- a sum over a list is one over the others, and one over those that are kept
pub sum_by-parted : (f : ℕ → ℕ) (keep : ℕ → Bool) (xs : List ℕ) → sum_by f xs
    ≡ sum_by f (filter (λ x. not (keep x)) xs) + sum_by f (filter keep xs)
sum_by-parted f keep [] = refl
sum_by-parted f keep (x ∷ xs) = at (keep x) (sum_by-parted f keep xs)
  where
    others : List ℕ
    others = filter (λ x. not (keep x)) xs

    kept : List ℕ
    kept = filter keep xs

    behind : (t s a b : ℕ) → s ≡ a + b → t + s ≡ a + (t + b)
    behind t s a b e = omega arith

    before : (t s a b : ℕ) → s ≡ a + b → t + s ≡ t + a + b
    before t s a b e = omega arith

    at : (k : Bool) → sum_by f xs ≡ sum_by f others + sum_by f kept → sum_by f (x ∷ xs)
        ≡ sum_by f (if not k then x ∷ others else others) + sum_by f (if k then x ∷ kept else kept)
    at true e =
        sum_by-cons f x xs ∙ behind (f x) (sum_by f xs) (sum_by f others) (sum_by f kept) e
        ∙ ap (λ n. sum_by f others + n) (sym (sum_by-cons f x kept))
    at false e =
        sum_by-cons f x xs ∙ before (f x) (sum_by f xs) (sum_by f others) (sum_by f kept) e
        ∙ ap (λ n. n + sum_by f kept) (sym (sum_by-cons f x others))

-- each of those that are kept passes
pub list_all-kept : (keep : ℕ → Bool) (xs : List ℕ) → list_all keep (filter keep xs) ≡ true
list_all-kept keep [] = refl
list_all-kept keep (x ∷ xs) = at (keep x) refl (list_all-kept keep xs)
  where
    at : (b : Bool) → keep x ≡ b → list_all keep (filter keep xs) ≡ true
        → list_all keep (if b then x ∷ filter keep xs else filter keep xs) ≡ true
    at true e h = ap (λ b. b && list_all keep (filter keep xs)) e ∙ h
    at false e h = h
