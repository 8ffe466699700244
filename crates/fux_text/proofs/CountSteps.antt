-- One more number of a range: what is written for it, and what is kept of it.
use Rattle.std.proofs.Common.{◌≡◌, ℕ, ◌+◌, ◌-◌, ◌<◌, suc, Bool, true, false, List, [], ◌∷◌, ◌++◌, Option, refl, sym, ap, ◌∙◌, append_assoc, arith}
use Rattle.std.specs.Prelude.{filter, find}
use Rattle.std.proofs.lemmas.List.{append-nil}
use Rattle.std.specs.List.{flat_map, list_all, range_with_len}

-- the first number of a range, and the range behind it
pub range-next : (a b : ℕ) → a < b → range_with_len a (b - a) ≡ a ∷ range_with_len (a + 1) (b - (a + 1))
range-next a b h =
    let k : b - a ≡ suc (b - (a + 1)) = omega arith in
    rw k refl

-- where the text for a number was appended, the rest of the range is still to be written
pub written-next : (f : ℕ → List ℕ) (before after whole : List ℕ) (a b : ℕ) → a < b → after ≡ before ++ f a
    → before ++ flat_map f (range_with_len a (b - a)) ≡ whole → after
    ++ flat_map f (range_with_len (a + 1) (b - (a + 1))) ≡ whole
written-next f before after whole a b h e so_far =
    ap (λ t. t ++ flat_map f (range_with_len (a + 1) (b - (a + 1)))) e
    ∙ append_assoc before (f a) (flat_map f (range_with_len (a + 1) (b - (a + 1))))
    ∙ ap (λ numbers. before ++ flat_map f numbers) (sym (range-next a b h))
    ∙ so_far

-- the same where only some numbers have a text
pub kept_written-next : (f : ℕ → List ℕ) (p : ℕ → Bool) (before after whole : List ℕ) (a b : ℕ) → a < b → after ≡ before
    ++ flat_map f (filter p (a ∷ []))
    → before ++ flat_map f (filter p (range_with_len a (b - a))) ≡ whole → after
    ++ flat_map f (filter p (range_with_len (a + 1) (b - (a + 1)))) ≡ whole
kept_written-next f p before after whole a b h e so_far =
    ap (λ t. t ++ flat_map f (filter p (range_with_len (a + 1) (b - (a + 1))))) e
    ∙ append_assoc before (flat_map f (filter p (a ∷ [])))
    (flat_map f (filter p (range_with_len (a + 1) (b - (a + 1)))))
    ∙ ap (λ t. before ++ t) (sym (one_first (p a) refl))
    ∙ so_far
  where
    others : List ℕ
    others = range_with_len (a + 1) (b - (a + 1))

    one_first : (b' : Bool) → p a ≡ b' → flat_map f (filter p (range_with_len a (b - a)))
        ≡ flat_map f (filter p (a ∷ [])) ++ flat_map f (filter p others)
    one_first true t = rw (range-next a b h, t) (ap (λ x. x ++ flat_map f (filter p others)) (sym (append-nil (f a))))
    one_first false t = rw (range-next a b h, t) refl

-- what is kept of a range, with its first number or without
pub kept-next : (p : ℕ → Bool) (before after whole : List ℕ) (a b : ℕ) → a < b → after ≡ before ++ a ∷ [] → p a ≡ true
    → before ++ filter p (range_with_len a (b - a)) ≡ whole → after ++ filter p (range_with_len (a + 1) (b - (a + 1)))
    ≡ whole
kept-next p before after whole a b h e t so_far =
    ap (λ kept. kept ++ filter p (range_with_len (a + 1) (b - (a + 1)))) e
    ∙ append_assoc before (a ∷ []) (filter p (range_with_len (a + 1) (b - (a + 1))))
    ∙ ap (λ kept. before ++ kept) (sym one) ∙ so_far
  where
    one : filter p (range_with_len a (b - a)) ≡ a ∷ filter p (range_with_len (a + 1) (b - (a + 1)))
    one = rw (range-next a b h, t) refl

pub left_out-next : (p : ℕ → Bool) (before after whole : List ℕ) (a b : ℕ) → a < b → after ≡ before → p a ≡ false
    → before ++ filter p (range_with_len a (b - a)) ≡ whole → after ++ filter p (range_with_len (a + 1) (b - (a + 1)))
    ≡ whole
left_out-next p before after whole a b h e t so_far = ap
    (λ kept. kept ++ filter p (range_with_len (a + 1) (b - (a + 1)))) e ∙ ap (λ kept. before ++ kept) (sym one) ∙ so_far
  where
    one : filter p (range_with_len a (b - a)) ≡ filter p (range_with_len (a + 1) (b - (a + 1)))
    one = rw (range-next a b h, t) refl

-- the search of a range goes on behind its first number, where that isn't it
pub find-next : (p : ℕ → Bool) (a b : ℕ) (whole : Option ℕ) → a < b → p a ≡ false → find p (range_with_len a (b - a))
    ≡ whole
    → find p (range_with_len (a + 1) (b - (a + 1))) ≡ whole
find-next p a b whole h fails so_far =
    let one : find p (range_with_len a (b - a))
    ≡ find p (range_with_len (a + 1) (b - (a + 1))) = rw (range-next a b h, fails) refl in
    sym one ∙ so_far

-- where the first number passes a test, all of a range do where the others do; where it doesn't,
-- not all do
pub all-next : (p : ℕ → Bool) (a b : ℕ) (whole : Bool) → a < b → p a ≡ true → list_all p (range_with_len a (b - a)) ≡ whole
    → list_all p (range_with_len (a + 1) (b - (a + 1))) ≡ whole
all-next p a b whole h passes so_far =
    let one : list_all p (range_with_len a (b - a))
    ≡ list_all p (range_with_len (a + 1) (b - (a + 1))) = rw (range-next a b h, passes) refl in
    sym one ∙ so_far

pub all-stop : (p : ℕ → Bool) (a b : ℕ) (whole : Bool) → a < b → p a ≡ false → list_all p (range_with_len a (b - a)) ≡ whole
    → whole ≡ false
all-stop p a b whole h fails so_far =
    let one : list_all p (range_with_len a (b - a)) ≡ false = rw (range-next a b h, fails) refl in
    sym so_far ∙ one
