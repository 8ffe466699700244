-- What is found passes its test (`find_passes`), and where nothing is found, nothing does
-- (`none_found`).
use Rattle.std.proofs.Common.{◌≡◌, ◌⊎◌, inl, inr, Bool, true, false, List, [], ◌∷◌, Some, None, refl, ap, sym, ◌∙◌}
use Rattle.std.specs.List.{find, list_any}
use Rattle.std.proofs.lemmas.Bool.{cases_Bool}

module _ {X : Type 0} (test : X → Bool) where
  pub find_passes : (xs : List X) (x : X) → find test xs ≡ Some x → test x ≡ true
  find_passes [] x h = cc
  find_passes (y ∷ ys) x h = at (cases_Bool (test y)) (find_passes ys x)
    where
      at : (test y ≡ true) ⊎ (test y ≡ false) → (find test ys ≡ Some x → test x ≡ true) → test x ≡ true
      at (inl t) later = let same : Some y ≡ Some x = rw t at h in let one : y ≡ x = cc in ap test (sym one) ∙ t
      at (inr f) later = later (rw f at h)

  pub none_found : (xs : List X) → find test xs ≡ None → list_any test xs ≡ false
  none_found [] h = refl
  none_found (y ∷ ys) h = at (cases_Bool (test y)) (none_found ys)
    where
      at : (test y ≡ true) ⊎ (test y ≡ false) → (find test ys ≡ None → list_any test ys ≡ false) → list_any test (y ∷ ys)
          ≡ false
      at (inl t) later = let same : Some y ≡ None = rw t at h in cc
      at (inr f) later = rw f (later (rw f at h))
