-- Two voices clash in whichever order they are named (`clash-turned`).
use Rattle.std.specs.Prelude.{◌≡◌, ℕ, zero, suc, ℤ, pos, negsuc, neg_ℤ, int_lt, ◌-ℤ◌, Bool, true, false, not, ◌&&◌, ◌||◌, List, Option, Some, None, if◌then◌else◌, refl}
use Rattle.std.specs.Ordering.{int_eq}
use Rattle.std.proofs.Common.{ap, sym, ◌∙◌, arith}
use Rattle.std.proofs.Math.IntN.{neg_ℤ-neg_ℤ}
use Rattle.std.proofs.lemmas.Int.{ints}
use Rattle.fux_pitch.specs.declared.interval.Interval.{Interval}
use Rattle.fux_pitch.specs.declared.pitch.Pitch.{Pitch}
use Rattle.fux_pitch.specs.Pitch.{degree_of, key_of}
use Rattle.fux_pitch.specs.Size.{has_size, interval_between, is_consonant_size, points_down, reduced, upward, within_octave}
use Rattle.fux_grid.specs.declared.cell.Cell.{Cell}
use Rattle.fux_grid.specs.Cells.{cell_in, pitch_of}
use Rattle.rule_law.specs.Terms.{clash, holds_of, interval_of_pitches, is_lowest}

-- an interval of these parts, and the same the other way
abbrev of_parts : ℤ → ℤ → Interval
of_parts degrees semitones = record { degrees = degrees; semitones = semitones }

minus-turned : (a b : ℤ) → b -ℤ a ≡ neg_ℤ (a -ℤ b)
minus-turned a b = omega (arith, ints)

-- none but a negative number is below 0
pos-below : (n : ℕ) → int_lt (pos n) (pos 0) ≡ false
pos-below n = grind (arith, ints)

negsuc-below : (n : ℕ) → int_lt (negsuc n) (pos 0) ≡ true
negsuc-below n = grind (arith, ints)

suc-none : (n : ℕ) → int_eq (pos (suc n)) (pos 0) ≡ false
suc-none n = grind (arith, ints)

abbrev turned : ℤ → ℤ → Interval
turned d s = of_parts (neg_ℤ d) (neg_ℤ s)

upward-by : (d s : ℤ) (down : Bool) → points_down (of_parts d s) ≡ down
    → upward (of_parts d s) ≡ (if down then turned d s else of_parts d s)
upward-by d s down e = ap (λ b. if b then turned d s else of_parts d s) e

-- a positive number of degrees points up, a negative one down
rising : (m : ℕ) (s : ℤ) → points_down (of_parts (pos (suc m)) s) ≡ false
rising m s =
    ap (λ b. b || (int_eq (pos (suc m)) (pos 0) && int_lt s (pos 0))) (pos-below (suc m))
    ∙ ap (λ b. b && int_lt s (pos 0)) (suc-none m)

falling : (m : ℕ) (s : ℤ) → points_down (of_parts (negsuc m) s) ≡ true
falling m s = ap (λ b. b || (int_eq (negsuc m) (pos 0) && int_lt s (pos 0))) (negsuc-below m)

-- both point up alike
upward-turned : (d s : ℤ) → upward (turned d s) ≡ upward (of_parts d s)
upward-turned (pos zero) (pos zero) = refl
upward-turned (pos zero) (pos (suc n)) =
    upward-by (pos 0) (negsuc n) true (negsuc-below n) ∙ sym (upward-by (pos 0) (pos (suc n)) false (pos-below (suc n)))
upward-turned (pos zero) (negsuc n) =
    upward-by (pos 0) (pos (suc n)) false (pos-below (suc n)) ∙ sym (upward-by (pos 0) (negsuc n) true (negsuc-below n))
upward-turned (pos (suc m)) s =
    upward-by (negsuc m) (neg_ℤ s) true (falling m (neg_ℤ s)) ∙ ap (of_parts (pos (suc m))) (neg_ℤ-neg_ℤ s)
    ∙ sym (upward-by (pos (suc m)) s false (rising m s))
upward-turned (negsuc m) s =
    upward-by (pos (suc m)) (neg_ℤ s) false (rising m (neg_ℤ s)) ∙ sym (upward-by (negsuc m) s true (falling m s))

-- so they have one reduced size
reduced-turned : (p q : Pitch) → reduced (interval_between p q) ≡ reduced (interval_between q p)
reduced-turned p q =
    let degrees : ℤ = pos (degree_of p) -ℤ pos (degree_of q) in
    let semitones : ℤ = key_of p -ℤ key_of q in
    ap (λ d. reduced (of_parts d (key_of q -ℤ key_of p))) (minus-turned (pos (degree_of p)) (pos (degree_of q)))
    ∙ ap (λ s. reduced (of_parts (neg_ℤ degrees) s)) (minus-turned (key_of p) (key_of q))
    ∙ ap within_octave (upward-turned degrees semitones)

-- whether an interval of a reduced size is consonant
abbrev is_consonant_reduced : Interval → Bool → Bool
is_consonant_reduced r lowest = (has_size 0 0 r || has_size 4 7 r)
    || (has_size 2 3 r || has_size 2 4 r || has_size 5 8 r || has_size 5 9 r)
    || (if lowest then false else (has_size 3 5 r || has_size 3 6 r || has_size 4 6 r))

consonant-turned : (p q : Pitch) (lowest : Bool) → is_consonant_size (interval_between p q) lowest
    ≡ is_consonant_size (interval_between q p) lowest
consonant-turned p q lowest = ap (λ r. is_consonant_reduced r lowest) (reduced-turned p q)

either-turned : (a b : Bool) → (a || b) ≡ (b || a)
either-turned true true = refl
either-turned true false = refl
either-turned false true = refl
either-turned false false = refl

pitches-turned : (a b : Bool) (o other : Option Pitch)
    → holds_of (λ i. not (is_consonant_size i (a || b))) (interval_of_pitches o other)
    ≡ holds_of (λ i. not (is_consonant_size i (b || a))) (interval_of_pitches other o)
pitches-turned a b None None = refl
pitches-turned a b None (Some q) = refl
pitches-turned a b (Some p) None = refl
pitches-turned a b (Some p) (Some q) =
    ap (λ l. not (is_consonant_size (interval_between p q) l)) (either-turned a b)
    ∙ ap not (consonant-turned p q (b || a))

pub clash-turned : (col : List Cell) (v w : ℕ) → clash col v w ≡ clash col w v
clash-turned col v w =
    pitches-turned (is_lowest col v) (is_lowest col w) (pitch_of (cell_in col v)) (pitch_of (cell_in col w))
