-- An entry more in a queue: behind the first (`entries-pushed`), or as the first.
use Rattle.std.proofs.Common.{ℕ, ◌≤◌, List, ◌∷◌, ◌++◌, All, IsPermutation, Option, Some, None, IfSome}
use Rattle.std.proofs.lemmas.List.Elements.{All-cons}
use Rattle.std.proofs.lemmas.List.Sorted.{All-permutation, IsPermutation-append_right, IsPermutation-middle, IsPermutation-sym, IsPermutation-trans}
use Rattle.tree_search.specs.Entries.{Entry}

-- into the rest of a list
pub entries-pushed : (start xs ys : List Entry) (entry : Entry) → IsPermutation (entry ∷ xs) ys
    → IsPermutation (entry ∷ (start ++ xs)) (start ++ ys)
entries-pushed start xs ys entry added =
    IsPermutation-trans (entry ∷ (start ++ xs)) (start ++ entry ∷ xs) (start ++ ys)
    (IsPermutation-sym (start ++ entry ∷ xs) (entry ∷ (start ++ xs)) (IsPermutation-middle start entry xs))
    (IsPermutation-append_right start (entry ∷ xs) ys added)

-- one that is no lower leaves the first as it is
pub first-pushed : (first : Option (ℕ × ℕ)) (xs ys : List Entry) (entry : Entry) → IsPermutation (entry ∷ xs) ys
    → IfSome first (λ it. it.0 ≤ entry.0.0) → IfSome first (λ it. All (λ other. it.0 ≤ other.0.0) xs)
    → IfSome first (λ it. All (λ other. it.0 ≤ other.0.0) ys)
first-pushed None xs ys entry added low least = tt
first-pushed (Some it) xs ys entry added low least =
    let P : Entry → Type 0 = λ other. it.0 ≤ other.0.0 in
    All-permutation P (entry ∷ xs) ys added (All-cons P entry xs low least)
