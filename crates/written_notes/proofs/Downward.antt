-- One step of a loop from the highest number down.
use Rattle.std.proofs.Common.{◌≡◌, ℕ, zero, suc, ◌+◌, ◌-◌, ◌<◌, List, [], ◌∷◌, ◌++◌, reverse, ap, sym, ◌∙◌, arith}
use Rattle.std.specs.List.{flat_map, range_with_len}
use Rattle.std.proofs.lemmas.List.{reverse-append}
use Rattle.written_notes.proofs.Steps.{moved}

-- the last number of a range, and the range before it
range-last : (a n : ℕ) → range_with_len a (suc n) ≡ range_with_len a n ++ (a + n) ∷ []
range-last a zero = let e : a ≡ a + 0 = omega arith in ap (λ k. k ∷ []) e
range-last a (suc n) =
    let e : a + 1 + n ≡ a + suc n = omega arith in
    ap (λ t. a ∷ t) (range-last (a + 1) n) ∙ ap (λ k. a ∷ (range_with_len (a + 1) n ++ k ∷ [])) e

-- the parts of the numbers below the next, the highest first
rows-next : (f : ℕ → List ℕ) (n : ℕ)
    → flat_map f (reverse (range_with_len 0 (suc n))) ≡ f n ++ flat_map f (reverse (range_with_len 0 n))
rows-next f n =
    let e : 0 + n ≡ n = omega arith in
    ap (λ t. flat_map f (reverse t)) (range-last 0 n ∙ ap (λ k. range_with_len 0 n ++ k ∷ []) e)
    ∙ ap (flat_map f) (reverse-append (range_with_len 0 n) (n ∷ []))

-- the highest number's part moves from what is left to what is made
pub part-made-down : (f : ℕ → List ℕ) (v : ℕ) (before after whole : List ℕ) → 0 < v → after ≡ before ++ f (v - 1)
    → before ++ flat_map f (reverse (range_with_len 0 v)) ≡ whole
    → after ++ flat_map f (reverse (range_with_len 0 (v - 1))) ≡ whole
part-made-down f v before after whole h e so_far =
    let next : v ≡ suc (v - 1) = omega arith in
    moved before after (f (v - 1)) (flat_map f (reverse (range_with_len 0 (v - 1)))) whole e
    (ap (λ t. before ++ t) (sym (ap (λ k. flat_map f (reverse (range_with_len 0 k))) next ∙ rows-next f (v - 1))) ∙ so_far)
