-- What holds of each entry of a list holds with one more (`each_more`).
use Rattle.std.proofs.Common.{◌≡◌, ℕ, ◌+◌, ◌<◌, List, [], ◌∷◌, ◌++◌, length, ⊎_elim, sym, subst, arith, slice_index_or}
use Rattle.std.proofs.Math.ListN.{get_or-append}
use Rattle.std.proofs.lemmas.List.{get_or_push}
use Rattle.std.proofs.lemmas.Bool.{cases_lt}

pub each_more : {A : Type 0} (P : ℕ → A → Type 0) (xs longer : List A) (x d : A) (n : ℕ) → length xs ≡ n
    → longer ≡ xs ++ x ∷ [] → ((k : ℕ) → k < n → P k (slice_index_or xs k d)) → P n x
    → (k : ℕ) → k < n + 1 → P k (slice_index_or longer k d)
each_more P xs longer x d n long is before here k within =
    subst (λ ys. P k (slice_index_or ys k d)) (sym is) (⊎_elim
    (λ earlier. subst (P k) (sym (get_or-append xs (x ∷ []) d k (omega (arith, long, earlier)))) (before k earlier))
    (λ after.
    let same : k ≡ n = omega (arith, within, after) in
    subst (P k) (sym (get_or_push xs x d k (omega (arith, long, same))))
    (subst (λ (j : ℕ). P j x) (sym same) here))
    (cases_lt k n))
