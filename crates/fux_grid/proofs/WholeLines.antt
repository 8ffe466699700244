-- Range lines of a voice, read one by one: before and after the line for all bars.
use Rattle.std.proofs.Common.{◌≡◌, ◌==◌, ◌↔◌, ℕ, ◌+◌, ◌<◌, Bool, true, false, IsTrue, List, [], ◌∷◌, length, get_or, drop, filter, All, Option, Some, None, is_some, IsSome, refl, ap, sym, ◌∙◌, subst, eq-eqb}
use Rattle.std.proofs.Math.Bool.{not, beq}
use Rattle.std.proofs.lemmas.Bool.{ne_eqb}
use Rattle.std.proofs.lemmas.List.{drop_more}
use Rattle.std.proofs.lemmas.List.Elements.{All-nil, All-cons, All-head, All-tail}
use Rattle.fux_grid.specs.declared.exercise.RangeLine.{RangeLine}
use Rattle.fux_grid.specs.Exercises.{BeginsWithWhole}

-- what the lines of a voice have yet to be, before and after the one for all bars
abbrev pub Continues : Bool → List RangeLine → Type 0
Continues false lines = BeginsWithWhole lines
Continues true lines = All (λ other. IsSome other.bars) lines

-- the lines of a voice
abbrev pub own : ℕ → List RangeLine → List RangeLine
own v lines = filter (λ line. line.voice == v) lines

pub Continues-end : (has : Bool) (v : ℕ) (xs : List RangeLine) (i : ℕ) → drop i xs ≡ [] → IsTrue has
    ↔ Continues has (own v (drop i xs))
Continues-end has v xs i e =
    let P : List RangeLine → Type 0 = λ t. IsTrue has ↔ Continues has (own v t) in subst P (sym e) (at_end has)
  where
    at_end : (has : Bool) → IsTrue has ↔ Continues has []
    at_end false = (λ e. cc, λ h. absurd h)
    at_end true = (λ e. All-nil _, λ h. refl)

-- a line for all bars where none was read before, or a line for some bars where one was
Continues-own : (has : Bool) (x : RangeLine) (xs : List RangeLine) → is_some x.bars ≡ has → Continues has (x ∷ xs)
    ↔ Continues true xs
Continues-own false x xs e = (λ h. h.1, λ h. (none_from x.bars e, h))
  where
    none_from : (o : Option (ℕ × ℕ)) → is_some o ≡ false → o ≡ None
    none_from None f = refl
    none_from (Some b) f = cc
Continues-own true x xs e =
    (λ h. All-tail (λ other. IsSome other.bars) x xs h, λ h. All-cons (λ other. IsSome other.bars) x xs e h)

-- any other line
Continues-refused : (has : Bool) (x : RangeLine) (xs : List RangeLine) → (is_some x.bars ≡ has → ⊥)
    → Continues has (x ∷ xs) → ⊥
Continues-refused false x xs e h = e (ap is_some h.0)
Continues-refused true x xs e h = e (All-head (λ other. IsSome other.bars) x xs h)

first_of-drop : (xs : List RangeLine) (i : ℕ) (x : RangeLine) → i < length xs → x ≡ get_or xs i x → drop i xs ≡ x
    ∷ drop (i + 1) xs
first_of-drop xs i x h e = drop_more xs i x h ∙ ap (λ y. y ∷ drop (i + 1) xs) (sym e)

-- a line of another voice
pub own-other : (v : ℕ) (xs : List RangeLine) (i : ℕ) (x : RangeLine) → i < length xs → x ≡ get_or xs i x
    → (x.voice ≡ v → ⊥) → own v (drop i xs) ≡ own v (drop (i + 1) xs)
own-other v xs i x h e f = ap (own v) (first_of-drop xs i x h e) ∙ skipped (ne_eqb x.voice v f)
  where
    skipped : (x.voice == v) ≡ false → own v (x ∷ drop (i + 1) xs) ≡ own v (drop (i + 1) xs)
    skipped g = rw g refl

own-same : (v : ℕ) (xs : List RangeLine) (i : ℕ) (x : RangeLine) → i < length xs → x ≡ get_or xs i x → x.voice ≡ v
    → own v (drop i xs) ≡ x ∷ own v (drop (i + 1) xs)
own-same v xs i x h e f = ap (own v) (first_of-drop xs i x h e) ∙ kept (eq-eqb x.voice v f)
  where
    kept : (x.voice == v) ≡ true → own v (x ∷ drop (i + 1) xs) ≡ x ∷ own v (drop (i + 1) xs)
    kept g = rw g refl

pub Continues-more : (v : ℕ) (xs : List RangeLine) (i : ℕ) (x : RangeLine) (has : Bool) → i < length xs → x
    ≡ get_or xs i x → x.voice ≡ v → not (beq (is_some x.bars) has) ≡ false → Continues has (own v (drop i xs))
    ↔ Continues true (own v (drop (i + 1) xs))
Continues-more v xs i x has h e f g =
    let P : List RangeLine → Type 0 = λ t. Continues has t ↔ Continues true (own v (drop (i + 1) xs)) in
    subst P (sym (own-same v xs i x h e f)) (Continues-own has x _ (same (is_some x.bars) has g))
  where
    same : (a b : Bool) → not (beq a b) ≡ false → a ≡ b
    same false false k = refl
    same false true k = cc
    same true false k = cc
    same true true k = refl

pub Continues-stops : (v : ℕ) (xs : List RangeLine) (i : ℕ) (x : RangeLine) (has : Bool) → i < length xs → x
    ≡ get_or xs i x → x.voice ≡ v → not (beq (is_some x.bars) has) ≡ true → Continues has (own v (drop i xs)) → ⊥
Continues-stops v xs i x has h e f g =
    let P : List RangeLine → Type 0 = λ t. Continues has t → ⊥ in
    subst P (sym (own-same v xs i x h e f)) (Continues-refused has x _ (differ (is_some x.bars) has g))
  where
    differ : (a b : Bool) → not (beq a b) ≡ true → a ≡ b → ⊥
    differ false false k e = cc
    differ false true k e = cc
    differ true false k e = cc
    differ true true k e = cc
