-- A word names one thing at most, and each thing is found by its name (`by_name`, `all_pitches`).
use Rattle.std.proofs.Common.{◌≡◌, ℕ, zero, suc, ◌+◌, ◌<◌, ◌≤◌, ℤ, pos, negsuc, ◌≤ℤ◌, ◌⊎◌, inl, inr, Bool, true, false, List, [], ◌∷◌, ◌++◌, Option, Some, None, refl, sym, ap, ◌∙◌, subst, arith}
use Rattle.std.specs.Prelude.{IfSome, if◌then◌else◌}
use Rattle.std.specs.Cmp.Lexicographic as texts
use Rattle.std.specs.List.{filter_map, flat_map, range_with_len, cons_option}
use Rattle.std.proofs.lemmas.Int.{ints}
use Rattle.text_lines.specs.Reading.{same_text}
use Rattle.fux_pitch.specs.declared.pitch.Pitch.{Pitch}
use Rattle.fux_pitch.specs.Pitch.{pitch_at, degree_of, alter_of}
use Rattle.fux_pitch.proofs.NameParts.{octave-range}
use Rattle.fux_pitch.proofs.PitchLemmas.{pitch_at-own}
use Rattle.fux_text.specs.Names.{named, pitches, pitches_on}

-- two texts are one where the test says so, and only there
pub same_from : (xs ys : List ℕ) → xs ≡ ys → same_text xs ys ≡ true
same_from xs ys h = by (same_text xs ys) refl
  where
    by : (b : Bool) → same_text xs ys ≡ b → same_text xs ys ≡ true
    by true e = e
    by false e = absurd (texts.other_text xs ys (sym e) h)

pub text_from : (xs ys : List ℕ) → same_text xs ys ≡ true → xs ≡ ys
text_from xs ys e = texts.same_text xs ys (sym e)

-- the element is in the list
unfoldable pub Has : {A : Type 0} → List A → A → Type 0
Has [] x = ⊥
Has (y ∷ ys) x = (y ≡ x) ⊎ Has ys x

has-left : {A : Type 0} (xs ys : List A) (x : A) → Has xs x → Has (xs ++ ys) x
unfolding Has
has-left [] ys x h = absurd h
has-left (z ∷ zs) ys x (inl e) = inl e
has-left (z ∷ zs) ys x (inr h) = inr (has-left zs ys x h)

has-right : {A : Type 0} (xs ys : List A) (x : A) → Has ys x → Has (xs ++ ys) x
unfolding Has
has-right [] ys x h = h
has-right (z ∷ zs) ys x h = inr (has-right zs ys x h)

has-more : {A : Type 0} (o : Option A) (xs : List A) (x : A) → Has xs x → Has (cons_option o xs) x
unfolding Has
has-more None xs x h = h
has-more (Some z) xs x h = inr h

has-filter_map : {A B : Type 0} (f : A → Option B) (xs : List A) (a : A) (x : B) → f a ≡ Some x → Has xs a
    → Has (filter_map f xs) x
unfolding Has
has-filter_map f [] a x e h = absurd h
has-filter_map f (y ∷ ys) a x e (inl same) =
    subst (λ o. Has (cons_option o (filter_map f ys)) x) (sym (ap f same ∙ e)) (inl refl)
has-filter_map f (y ∷ ys) a x e (inr h) = has-more (f y) (filter_map f ys) x (has-filter_map f ys a x e h)

has-flat_map : {A B : Type 0} (f : A → List B) (xs : List A) (a : A) (x : B) → Has (f a) x → Has xs a
    → Has (flat_map f xs) x
unfolding Has
has-flat_map f [] a x here h = absurd h
has-flat_map f (y ∷ ys) a x here (inl same) =
    has-left (f y) (flat_map f ys) x (subst (λ z. Has (f z) x) (sym same) here)
has-flat_map f (y ∷ ys) a x here (inr h) = has-right (f y) (flat_map f ys) x (has-flat_map f ys a x here h)

has-range : (n a i : ℕ) → a ≤ i → i < a + n → Has (range_with_len a n) i
unfolding Has
has-range zero a i low high = absurd (omega arith)
has-range (suc n) a i low high =
    elim (eq_or_more a i low) [ inl e ↦ inl e | inr lt ↦ inr (has-range n (a + 1) i (omega arith) (omega arith)) ]
  where
    eq_or_more : (a i : ℕ) → a ≤ i → (a ≡ i) ⊎ (a < i)
    eq_or_more a i h = grind arith

-- what is found has the name
pub found_name : {A : Type 0} (name : A → List ℕ) (xs : List A) (text : List ℕ) (x : A) → named name xs text ≡ Some x
    → name x ≡ text
found_name name [] text x e = grind arith
found_name name (y ∷ ys) text x e = by (same_text (name y) text) refl (found_name name ys text x) e
  where
    by : (b : Bool) → same_text (name y) text ≡ b → (named name ys text ≡ Some x → name x ≡ text)
        → (if b then Some y else named name ys text) ≡ Some x → name x ≡ text
    by true same later e = let yx : y ≡ x = grind arith in ap name (sym yx) ∙ text_from (name y) text same
    by false other later e = later e

-- where an element has the name, one is found
found_some : {A : Type 0} (name : A → List ℕ) (xs : List A) (text : List ℕ) (x : A) → name x ≡ text → Has xs x
    → named name xs text ≡ None → ⊥
unfolding Has
found_some name [] text x e h none = h
found_some name (y ∷ ys) text x e h none = by (same_text (name y) text) refl (found_some name ys text x e) h none
  where
    by : (b : Bool) → same_text (name y) text ≡ b → (Has ys x → named name ys text ≡ None → ⊥) → (y ≡ x) ⊎ Has ys x
        → (if b then Some y else named name ys text) ≡ None → ⊥
    by true same later h none = grind arith
    by false other later (inl yx) none = grind (arith, same_from (name y) text (ap name yx ∙ e), other)
    by false other later (inr h) none = later h none

-- what a reader of names answers is what is found by the name
pub by_name : {A : Type 0} (name : A → List ℕ) (xs : List A) (text : List ℕ) (r : Option A) → ((x : A) → Has xs x)
    → IfSome r (λ x. name x ≡ text) → ((x : A) → name x ≡ text → r ≡ Some x) → r ≡ named name xs text
by_name {A = A} name xs text r all is every = by r (named name xs text) refl is every
  where
    by : (r found : Option A) → named name xs text ≡ found → IfSome r (λ x. name x ≡ text)
        → ((x : A) → name x ≡ text → r ≡ Some x) → r ≡ found
    by r (Some y) e is every = every y (found_name name xs text y e)
    by None None e is every = refl
    by (Some x) None e is every = absurd (found_some name xs text x is (all x) e)

-- a thing is found by its own name, where no other one has it
pub named-own : {A : Type 0} (name : A → List ℕ) (xs : List A) (x : A) → Has xs x → ((y : A) → name y ≡ name x → y ≡ x)
    → named name xs (name x) ≡ Some x
named-own {A = A} name xs x has only = by (named name xs (name x)) refl
  where
    by : (found : Option A) → named name xs (name x) ≡ found → found ≡ Some x
    by (Some y) e = ap Some (only y (found_name name xs (name x) y e))
    by None e = absurd (found_some name xs (name x) x refl has e)

has_alter : (alter : ℤ) → negsuc 0 ≤ℤ alter → alter ≤ℤ pos 1 → Has (negsuc 0 ∷ pos 0 ∷ pos 1 ∷ []) alter
unfolding Has
has_alter (pos zero) low high = inr (inl refl)
has_alter (pos (suc zero)) low high = inr (inr (inl refl))
has_alter (pos (suc (suc n))) low high = absurd (omega (arith, ints))
has_alter (negsuc zero) low high = inl refl
has_alter (negsuc (suc n)) low high = absurd (omega (arith, ints))

pub all_pitches : (p : Pitch) → Has pitches p
unfolding pitches
all_pitches p =
    has-flat_map pitches_on (range_with_len 0 64) (degree_of p) p
    (has-filter_map (pitch_at (degree_of p)) (negsuc 0 ∷ pos 0 ∷ pos 1 ∷ []) (alter_of p) p (pitch_at-own p)
    (has_alter (alter_of p) p.is_pitch.flat p.is_pitch.sharp))
    (has-range 64 0 (degree_of p) (omega arith) (omega (arith, octave-range p)))
