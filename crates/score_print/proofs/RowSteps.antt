-- What is written for the next part of a list moves from what is left to what is written.
use Rattle.std.proofs.Common.{◌≡◌, ℕ, zero, suc, ◌+◌, ◌-◌, ◌<◌, List, [], ◌∷◌, ◌++◌, reverse, replicate, ap, sym, ◌∙◌, append_assoc, refl, arith}
use Rattle.std.specs.List.{flat_map, range_with_len}
use Rattle.std.proofs.lemmas.List.{reverse-append}

-- what was written for a part is left no more
pub moved : (before after part rest whole : List ℕ) → after ≡ before ++ part
    → before ++ (part ++ rest) ≡ whole → after ++ rest ≡ whole
moved before after part rest whole e so_far = ap (λ t. t ++ rest) e ∙ append_assoc before part rest ∙ so_far

-- the first number of a range, and the range behind it
pub range-next : (a b : ℕ) → a < b → range_with_len a (b - a) ≡ a ∷ range_with_len (a + 1) (b - (a + 1))
range-next a b h =
    let k : b - a ≡ suc (b - (a + 1)) = omega arith in
    rw k refl

-- the last number of a range, and the range before it
pub range-last : (a n : ℕ) → range_with_len a (suc n) ≡ range_with_len a n ++ (a + n) ∷ []
range-last a zero = let e : a ≡ a + 0 = omega arith in ap (λ k. k ∷ []) e
range-last a (suc n) =
    let e : a + 1 + n ≡ a + suc n = omega arith in
    ap (λ t. a ∷ t) (range-last (a + 1) n) ∙ ap (λ k. a ∷ (range_with_len (a + 1) n ++ k ∷ [])) e

-- the next number's part moves from what is left to what is written
pub part-made : (f : ℕ → List ℕ) (a b : ℕ) (before after whole : List ℕ) → a < b → after ≡ before ++ f a
    → before ++ flat_map f (range_with_len a (b - a)) ≡ whole
    → after ++ flat_map f (range_with_len (a + 1) (b - (a + 1))) ≡ whole
part-made f a b before after whole h e so_far =
    moved before after (f a) (flat_map f (range_with_len (a + 1) (b - (a + 1)))) whole e
    (ap (λ t. before ++ flat_map f t) (sym (range-next a b h)) ∙ so_far)

-- the parts of the numbers below the next, the highest first
rows-next : (f : ℕ → List ℕ) (n : ℕ)
    → flat_map f (reverse (range_with_len 0 (suc n))) ≡ f n ++ flat_map f (reverse (range_with_len 0 n))
rows-next f n =
    ap (λ t. flat_map f (reverse t)) (range-last 0 n ∙ ap (λ k. range_with_len 0 n ++ k ∷ []) (omega arith))
    ∙ ap (flat_map f) (reverse-append (range_with_len 0 n) (n ∷ []))

-- the highest number's part moves from what is left to what is written
pub part-made-down : (f : ℕ → List ℕ) (v : ℕ) (before after whole : List ℕ) → 0 < v → after ≡ before ++ f (v - 1)
    → before ++ flat_map f (reverse (range_with_len 0 v)) ≡ whole
    → after ++ flat_map f (reverse (range_with_len 0 (v - 1))) ≡ whole
part-made-down f v before after whole h e so_far =
    let next : v ≡ suc (v - 1) = omega arith in
    moved before after (f (v - 1)) (flat_map f (reverse (range_with_len 0 (v - 1)))) whole e
    (ap (λ t. before ++ t) (sym (ap (λ k. flat_map f (reverse (range_with_len 0 k))) next ∙ rows-next f (v - 1))) ∙ so_far)

-- the spaces that are left
pub spaces-next : (a b : ℕ) → a < b → replicate {A = ℕ} (b - a) 32 ≡ 32 ∷ replicate {A = ℕ} (b - (a + 1)) 32
spaces-next a b h =
    let k : b - a ≡ suc (b - (a + 1)) = omega arith in
    rw k refl
