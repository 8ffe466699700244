-- The greatest and the least key of the notes of a voice, as summaries keep them: of no notes 0 and
-- 127, the ends of what MIDI has. Of a note or more they are what their names say
-- (`greatest_key_is`, `least_key_is`), and they tell how far any notes span (`span_is`).
use Rattle.std.specs.Prelude.{◌≡◌, ℕ, zero, suc, ℤ, pos, ◌-ℤ◌, ◌≤ℤ◌, int_lt, Bool, true, false, cond, ◌||◌, List, [], ◌∷◌, refl}
use Rattle.std.specs.Int.{int_max, int_min}
use Rattle.std.specs.List.{All, Any, list_any}
use Rattle.std.proofs.Common.{ap, sym, ◌∙◌, arith}
use Rattle.std.proofs.lemmas.Int.{ints, clamps}
use Rattle.fux_pitch.specs.declared.pitch.Pitch.{Pitch}
use Rattle.fux_pitch.specs.Pitch.{key_of}
use Rattle.melody_rules.specs.Rows.{spans_over}

abbrev pub greatest_key : List Pitch → ℤ
greatest_key [] = pos 0
greatest_key (p ∷ ps) = int_max (key_of p) (greatest_key ps)

abbrev pub least_key : List Pitch → ℤ
least_key [] = pos 127
least_key (p ∷ ps) = int_min (key_of p) (least_key ps)

-- a note has the key, and no note has a greater one
pub record IsGreatestKey (ps : List Pitch) (key : ℤ) : Type 0 where
  pub reached : Any (λ p. key_of p ≡ key) ps
  pub greatest : All (λ p. key_of p ≤ℤ key) ps

-- a note has the key, and no note has a lesser one
pub record IsLeastKey (ps : List Pitch) (key : ℤ) : Type 0 where
  pub reached : Any (λ p. key_of p ≡ key) ps
  pub least : All (λ p. key ≤ℤ key_of p) ps

-- no note is above the greatest key, or below the least
at_most : (ps : List Pitch) (key : ℤ) → greatest_key ps ≤ℤ key → All (λ p. key_of p ≤ℤ key) ps
at_most [] key h k d lt = absurd (omega (arith, lt))
at_most (p ∷ ps) key h zero d lt = omega (arith, ints, clamps, h)
at_most (p ∷ ps) key h (suc k) d lt = at_most ps key (omega (arith, ints, clamps, h)) k d (omega (arith, lt))

at_least : (ps : List Pitch) (key : ℤ) → key ≤ℤ least_key ps → All (λ p. key ≤ℤ key_of p) ps
at_least [] key h k d lt = absurd (omega (arith, lt))
at_least (p ∷ ps) key h zero d lt = omega (arith, ints, clamps, h)
at_least (p ∷ ps) key h (suc k) d lt = at_least ps key (omega (arith, ints, clamps, h)) k d (omega (arith, lt))

-- each pitch lies within the keys of MIDI
least_of : (p : Pitch) → pos 24 ≤ℤ key_of p
least_of p = p.is_pitch.low

most_of : (p : Pitch) → key_of p ≤ℤ pos 96
most_of p = p.is_pitch.high

-- some note is at the greatest key, and some at the least
has_greatest : (p : Pitch) (ps : List Pitch) → Any (λ q. key_of q ≡ greatest_key (p ∷ ps)) (p ∷ ps)
has_greatest p [] = (0, p, omega arith, refl, omega (arith, ints, clamps, least_of p))
has_greatest p (q ∷ qs) = at (int_lt (greatest_key (q ∷ qs)) (key_of p)) (has_greatest q qs)
  where
    at : (b : Bool) → Any (λ x. key_of x ≡ greatest_key (q ∷ qs)) (q ∷ qs)
        → Any (λ x. key_of x ≡ cond b (key_of p) (greatest_key (q ∷ qs))) (p ∷ q ∷ qs)
    at true r = (0, p, omega arith, refl, refl)
    at false r = (suc r.0, r.1, omega (arith, r.2), r.3, r.4)

has_least : (p : Pitch) (ps : List Pitch) → Any (λ q. key_of q ≡ least_key (p ∷ ps)) (p ∷ ps)
has_least p [] = (0, p, omega arith, refl, omega (arith, ints, clamps, most_of p))
has_least p (q ∷ qs) = at (int_lt (least_key (q ∷ qs)) (key_of p)) (has_least q qs)
  where
    at : (b : Bool) → Any (λ x. key_of x ≡ least_key (q ∷ qs)) (q ∷ qs)
        → Any (λ x. key_of x ≡ cond b (least_key (q ∷ qs)) (key_of p)) (p ∷ q ∷ qs)
    at true r = (suc r.0, r.1, omega (arith, r.2), r.3, r.4)
    at false r = (0, p, omega arith, refl, refl)

pub greatest_key_is : (p : Pitch) (ps : List Pitch) → IsGreatestKey (p ∷ ps) (greatest_key (p ∷ ps))
greatest_key_is p ps =
    record { reached = has_greatest p ps; greatest = at_most (p ∷ ps) (greatest_key (p ∷ ps)) (omega (arith, ints)) }

pub least_key_is : (p : Pitch) (ps : List Pitch) → IsLeastKey (p ∷ ps) (least_key (p ∷ ps))
least_key_is p ps =
    record { reached = has_least p ps; least = at_least (p ∷ ps) (least_key (p ∷ ps)) (omega (arith, ints)) }

-- of two tests of which one is true where the other is
pub second_wins : (x y : Bool) → (x ≡ true → y ≡ true) → (x || y) ≡ y
second_wins true y f = sym (f refl)
second_wins false y f = refl

pub first_wins : (x y : Bool) → (y ≡ true → x ≡ true) → (x || y) ≡ x
first_wins true y f = refl
first_wins false true f = sym (f refl)
first_wins false false f = refl

module _ (n : ℕ) where
  wider : (a b : ℤ) → a ≤ℤ b → int_lt (pos n) a ≡ true → int_lt (pos n) b ≡ true
  wider a b h e = grind (arith, ints, h, e)

  no_span : (a : ℤ) → a ≤ℤ pos 0 → int_lt (pos n) a ≡ false
  no_span a h = grind (arith, ints, h)

  -- the greatest distance down from a key is that to the least one
  either_low : (key a b : ℤ)
      → (int_lt (pos n) (key -ℤ a) || int_lt (pos n) (key -ℤ b)) ≡ int_lt (pos n) (key -ℤ int_min a b)
  either_low key a b = at (int_lt b a) refl
    where
      at : (t : Bool) → int_lt b a ≡ t
          → (int_lt (pos n) (key -ℤ a) || int_lt (pos n) (key -ℤ b)) ≡ int_lt (pos n) (key -ℤ cond t b a)
      at true e = second_wins _ _ (wider (key -ℤ a) (key -ℤ b) (grind (arith, ints, e)))
      at false e = first_wins _ _ (wider (key -ℤ b) (key -ℤ a) (grind (arith, ints, e)))

  down_to : (key : ℤ) (ps : List Pitch) → key ≤ℤ pos 96
      → list_any (λ p. int_lt (pos n) (key -ℤ key_of p)) ps ≡ int_lt (pos n) (key -ℤ least_key ps)
  down_to key [] h = sym (no_span (key -ℤ pos 127) (omega (arith, ints, h)))
  down_to key (p ∷ ps) h =
      ap (λ b. int_lt (pos n) (key -ℤ key_of p) || b) (down_to key ps h) ∙ either_low key (key_of p) (least_key ps)

  -- and up from a key that to the greatest one
  either_high : (key a b : ℤ)
      → (int_lt (pos n) (a -ℤ key) || int_lt (pos n) (b -ℤ key)) ≡ int_lt (pos n) (int_max a b -ℤ key)
  either_high key a b = at (int_lt b a) refl
    where
      at : (t : Bool) → int_lt b a ≡ t
          → (int_lt (pos n) (a -ℤ key) || int_lt (pos n) (b -ℤ key)) ≡ int_lt (pos n) (cond t a b -ℤ key)
      at true e = first_wins _ _ (wider (b -ℤ key) (a -ℤ key) (grind (arith, ints, e)))
      at false e = second_wins _ _ (wider (a -ℤ key) (b -ℤ key) (grind (arith, ints, e)))

  up_to : (key : ℤ) (ps : List Pitch) → pos 0 ≤ℤ key
      → list_any (λ p. int_lt (pos n) (key_of p -ℤ key)) ps ≡ int_lt (pos n) (greatest_key ps -ℤ key)
  up_to key [] h = sym (no_span (pos 0 -ℤ key) (omega (arith, ints, h)))
  up_to key (p ∷ ps) h =
      ap (λ b. int_lt (pos n) (key_of p -ℤ key) || b) (up_to key ps h) ∙ either_high key (key_of p) (greatest_key ps)

  not_negative : (ps : List Pitch) → pos 0 ≤ℤ least_key ps
  not_negative [] = omega (arith, ints)
  not_negative (p ∷ ps) = omega (arith, ints, clamps, least_of p, not_negative ps)

  -- notes span more semitones than n where their greatest key is so far above the least
  pub span_is : (ps : List Pitch) → spans_over n ps ≡ int_lt (pos n) (greatest_key ps -ℤ least_key ps)
  span_is ps =
      ap (λ f. list_any f ps) (λ i p. down_to (key_of p) ps (most_of p) i)
      ∙ up_to (least_key ps) ps (not_negative ps)
