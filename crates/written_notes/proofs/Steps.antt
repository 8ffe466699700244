-- One step of a loop over numbers: what is made so far, and what is left to make.
use Rattle.std.proofs.Common.{◌≡◌, ℕ, suc, Bool, ◌+◌, ◌-◌, ◌<◌, ◌≤◌, List, [], ◌∷◌, ◌++◌, cond, filter, refl, ap, sym, ◌∙◌, append_assoc, append-nil, map, arith, true, false}
use Rattle.std.specs.List.{flat_map, range_with_len}
use Rattle.std.proofs.lemmas.List.FromFn.{map-range_with_len_more}

-- what was made for a part is left no more
pub moved : {X : Type 0} (before after part rest whole : List X) → after ≡ before ++ part
    → before ++ (part ++ rest) ≡ whole → after ++ rest ≡ whole
moved before after part rest whole e so_far = ap (λ t. t ++ rest) e ∙ append_assoc before part rest ∙ so_far

-- the first number of a range, and the range behind it
pub range-next : (a b : ℕ) → a < b → range_with_len a (b - a) ≡ a ∷ range_with_len (a + 1) (b - (a + 1))
range-next a b h =
    let k : b - a ≡ suc (b - (a + 1)) = omega arith in
    rw k refl

-- the next number's part moves from what is left to what is made
pub part-made : {X : Type 0} (f : ℕ → List X) (a b : ℕ) (before after whole : List X) → a < b → after ≡ before ++ f a
    → before ++ flat_map f (range_with_len a (b - a)) ≡ whole
    → after ++ flat_map f (range_with_len (a + 1) (b - (a + 1))) ≡ whole
part-made f a b before after whole h e so_far =
    moved before after (f a) (flat_map f (range_with_len (a + 1) (b - (a + 1)))) whole e
    (ap (λ t. before ++ flat_map f t) (sym (range-next a b h)) ∙ so_far)

-- no number is left
pub all-made : {X : Type 0} (f : ℕ → List X) (a b : ℕ) (made whole : List X) → b ≤ a
    → made ++ flat_map f (range_with_len a (b - a)) ≡ whole → made ≡ whole
all-made f a b made whole h so_far =
    let none : b - a ≡ 0 = omega arith in
    sym (append-nil made) ∙ ap (λ n. made ++ flat_map f (range_with_len a n)) (sym none) ∙ so_far

-- the next number is kept or not
pub filter-next : (p : ℕ → Bool) (x : ℕ) (xs : List ℕ) → filter p (x ∷ xs) ≡ cond (p x) (x ∷ []) [] ++ filter p xs
filter-next p x xs = elim (p x) as (λ b. cond b (x ∷ filter p xs) (filter p xs) ≡ cond b (x ∷ []) [] ++ filter p xs) [ true ↦ refl | false ↦ refl ]

pub kept-made : (p : ℕ → Bool) (a b : ℕ) (before after whole : List ℕ) → a < b
    → after ≡ before ++ cond (p a) (a ∷ []) []
    → before ++ filter p (range_with_len a (b - a)) ≡ whole
    → after ++ filter p (range_with_len (a + 1) (b - (a + 1))) ≡ whole
kept-made p a b before after whole h e so_far =
    let rest : List ℕ = range_with_len (a + 1) (b - (a + 1)) in
    moved before after (cond (p a) (a ∷ []) []) (filter p rest) whole e
    (ap (λ t. before ++ t) (sym (filter-next p a rest) ∙ ap (filter p) (sym (range-next a b h))) ∙ so_far)

-- the next number's item stands behind those of the numbers so far
pub mapped-more : {X : Type 0} (f : ℕ → X) (i : ℕ) (first before after : List X) (x : X)
    → before ≡ first ++ map f (range_with_len 0 i) → after ≡ before ++ x ∷ [] → x ≡ f i
    → after ≡ first ++ map f (range_with_len 0 (i + 1))
mapped-more f i first before after x so_far e same =
    e ∙ ap (λ t. t ++ x ∷ []) so_far ∙ append_assoc first (map f (range_with_len 0 i)) (x ∷ [])
    ∙ ap (λ t. first ++ t) (ap (λ y. map f (range_with_len 0 i) ++ y ∷ []) same ∙ sym (map-range_with_len_more f 0 i i (omega arith)))
