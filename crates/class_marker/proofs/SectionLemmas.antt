-- What passes a test in lists that are joined from parts: a part more (`part_kept`), the part of
-- one number more (`number_kept`, `numbers_kept`), no number left (`all_kept`, `all_parts_kept`).
use Rattle.std.proofs.Common.{◌≡◌, ℕ, suc, ◌+◌, ◌-◌, ◌<◌, Bool, true, false, List, [], ◌∷◌, ◌++◌, map, refl, ap, sym, ◌∙◌, arith, append-nil, append_assoc}
use Rattle.std.specs.Prelude.{if◌then◌else◌}
use Rattle.std.specs.List.{filter, flat_map, range_with_len}
use Rattle.std.proofs.lemmas.List.Elements.{filter-append}

-- the numbers from one on before another are the first and those behind it
pub range_first : (a b : ℕ) → a < b → range_with_len a (b - a) ≡ a ∷ range_with_len (a + 1) (b - (a + 1))
range_first a b h = let k : b - a ≡ suc (b - (a + 1)) = omega arith in rw k refl

module _ {D : Type 0} (P : D → Bool) where
  -- one item, where its test is known
  pub one_kept : (b : Bool) (d : D) → b ≡ P d → (if b then d ∷ [] else []) ≡ filter P (d ∷ [])
  one_kept true d e = rw (sym e) refl
  one_kept false d e = rw (sym e) refl

  -- a part more, before what is left
  pub part_kept : (before after whole xs ys : List D) → after ≡ before ++ filter P xs
      → before ++ filter P (xs ++ ys) ≡ whole → after ++ filter P ys ≡ whole
  part_kept before after whole xs ys e so_far =
      ap (λ l. l ++ filter P ys) e ∙ append_assoc before (filter P xs) (filter P ys)
      ∙ ap (λ l. before ++ l) (sym (filter-append P xs ys)) ∙ so_far

  -- an item more behind those that were kept
  pub item_kept : (old before after xs : List D) (b : Bool) (d : D) → b ≡ P d → before ≡ old ++ filter P xs
      → after ≡ before ++ (if b then d ∷ [] else []) → after ≡ old ++ filter P (xs ++ d ∷ [])
  item_kept old before after xs b d e so_far more =
      more ∙ ap (λ l. before ++ l) (one_kept b d e) ∙ ap (λ l. l ++ filter P (d ∷ [])) so_far
      ∙ append_assoc old (filter P xs) (filter P (d ∷ []))
      ∙ ap (λ l. old ++ l) (sym (filter-append P xs (d ∷ [])))

  -- the item of a number more
  pub number_kept : (f : ℕ → D) (before after whole : List D) (b : Bool) (a n : ℕ) → a < n → b ≡ P (f a)
      → after ≡ before ++ (if b then f a ∷ [] else [])
      → before ++ filter P (map f (range_with_len a (n - a))) ≡ whole
      → after ++ filter P (map f (range_with_len (a + 1) (n - (a + 1)))) ≡ whole
  number_kept f before after whole b a n h e more so_far =
      part_kept before after whole (f a ∷ []) (map f (range_with_len (a + 1) (n - (a + 1))))
      (more ∙ ap (λ l. before ++ l) (one_kept b (f a) e))
      (ap (λ ks. before ++ filter P (map f ks)) (sym (range_first a n h)) ∙ so_far)

  -- the part of a number more
  pub numbers_kept : (g : ℕ → List D) (before after whole : List D) (a n : ℕ) → a < n
      → after ≡ before ++ filter P (g a)
      → before ++ filter P (flat_map g (range_with_len a (n - a))) ≡ whole
      → after ++ filter P (flat_map g (range_with_len (a + 1) (n - (a + 1)))) ≡ whole
  numbers_kept g before after whole a n h more so_far =
      part_kept before after whole (g a) (flat_map g (range_with_len (a + 1) (n - (a + 1)))) more
      (ap (λ ks. before ++ filter P (flat_map g ks)) (sym (range_first a n h)) ∙ so_far)

  -- no number is left
  pub all_kept : (f : ℕ → D) (made whole : List D) (a n : ℕ) → n - a ≡ 0
      → made ++ filter P (map f (range_with_len a (n - a))) ≡ whole → made ≡ whole
  all_kept f made whole a n none so_far =
      sym (append-nil made) ∙ ap (λ k. made ++ filter P (map f (range_with_len a k))) (sym none) ∙ so_far

  pub all_parts_kept : (g : ℕ → List D) (made whole : List D) (a n : ℕ) → n - a ≡ 0
      → made ++ filter P (flat_map g (range_with_len a (n - a))) ≡ whole → made ≡ whole
  all_parts_kept g made whole a n none so_far =
      sym (append-nil made) ∙ ap (λ k. made ++ filter P (flat_map g (range_with_len a k))) (sym none) ∙ so_far

  -- five parts, one after the other
  pub five_kept : (h c r x g first second third fourth fifth : List D) → first ≡ filter P h
      → second ≡ first ++ filter P c → third ≡ second ++ filter P r → fourth ≡ third ++ filter P x
      → fifth ≡ fourth ++ filter P g → fifth ≡ filter P (h ++ c ++ r ++ x ++ g)
  five_kept h c r x g first second third fourth fifth e1 e2 e3 e4 e5 =
      e5 ∙ ap (λ l. l ++ filter P g) (e4 ∙ ap (λ l. l ++ filter P x) (e3 ∙ ap (λ l. l ++ filter P r)
      (e2 ∙ ap (λ l. l ++ filter P c) e1 ∙ sym (filter-append P h c)) ∙ sym (filter-append P (h ++ c) r))
      ∙ sym (filter-append P (h ++ c ++ r) x)) ∙ sym (filter-append P (h ++ c ++ r ++ x) g)
