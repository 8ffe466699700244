-- One number more of those that pass a test (`filter_more`).
use Rattle.std.proofs.Common.{◌≡◌, ℕ, zero, suc, ◌+◌, Bool, [], ◌∷◌, ◌++◌, ◌∙◌, ap, add-one, arith, cond}
use Rattle.std.specs.Prelude.{filter}
use Rattle.std.specs.List.{range_with_len}
use Rattle.std.proofs.lemmas.List.Elements.{filter-append}

range_last : (a n j : ℕ) → a + n ≡ j → range_with_len a (suc n) ≡ range_with_len a n ++ j ∷ []
range_last a zero j e =
    let same : a ≡ j = omega (arith, e) in
    ap (λ k. k ∷ []) same
range_last a (suc n) j e = ap (λ ks. a ∷ ks) (range_last (a + 1) n j (omega (arith, e)))

pub filter_more : (p : ℕ → Bool) (n : ℕ)
    → filter p (range_with_len 0 (n + 1)) ≡ filter p (range_with_len 0 n) ++ cond (p n) (n ∷ []) []
filter_more p n =
    ap (λ k. filter p (range_with_len 0 k)) (add-one n) ∙ ap (filter p) (range_last 0 n n (omega arith))
    ∙ filter-append p (range_with_len 0 n) (n ∷ [])
