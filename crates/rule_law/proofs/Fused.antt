-- A test of four voices, gone through one by one: some voice passes it once one does
-- (`some_passes`), and none passes it where no voice so far does and the next one doesn't
-- (`none_yet`).
use Rattle.std.proofs.Common.{◌≡◌, ℕ, zero, suc, ◌+◌, ◌<◌, Bool, true, false, ◌||◌, [], ◌∷◌, ◌++◌, ap, ◌∙◌, arith}
use Rattle.std.specs.List.{list_any, range_with_len}
use Rattle.std.proofs.lemmas.List.Folds.{list_any-append, list_any_at}
use Rattle.std.proofs.lemmas.List.FromFn.{get_or-range_with_len}

range_from-more : (a n : ℕ) → range_with_len a (suc n) ≡ range_with_len a n ++ (a + n) ∷ []
range_from-more a zero = let e : a ≡ a + 0 = omega arith in ap (λ k. k ∷ []) e
range_from-more a (suc n) =
    let e : a + 1 + n ≡ a + suc n = omega arith in
    ap (λ ks. a ∷ ks) (range_from-more (a + 1) n) ∙ ap (λ k. a ∷ (range_with_len (a + 1) n ++ k ∷ [])) e

module _ (test : ℕ → Bool) (v : ℕ) where
  pub none_yet : list_any test (range_with_len 0 v) ≡ false → test v ≡ false
      → list_any test (range_with_len 0 (v + 1)) ≡ false
  none_yet before here =
      let e : v + 1 ≡ suc v = omega arith in
      let f : 0 + v ≡ v = omega arith in
      ap (λ n. list_any test (range_with_len 0 n)) e ∙ ap (list_any test) (range_from-more 0 v)
      ∙ ap (λ k. list_any test (range_with_len 0 v ++ k ∷ [])) f
      ∙ list_any-append test (range_with_len 0 v) (v ∷ []) ∙ ap (λ b. b || (test v || false)) before
      ∙ ap (λ b. b || false) here

  pub some_passes : v < 4 → test v ≡ true → list_any test (range_with_len 0 4) ≡ true
  some_passes below here =
      let f : 0 + v ≡ v = omega arith in
      list_any_at test (range_with_len 0 4) v 0 below
      (ap test (get_or-range_with_len 0 4 v 0 below ∙ f) ∙ here)
