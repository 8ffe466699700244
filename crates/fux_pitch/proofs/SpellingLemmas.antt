-- The spelling of keys.
use Rattle.std.proofs.Common.{◌≡◌, ℕ, zero, suc, ◌+◌, ◌-◌, ◌*◌, ◌/◌, ◌%◌, ◌<◌, ◌≤◌, ℤ, pos, negsuc, ◌+ℤ◌, ◌≤ℤ◌, Bool, true, ◌&&◌, ◌==◌, refl, sym, ◌∙◌, ap, subst, arith, inl, inr, ◌||◌}
use Rattle.std.proofs.lemmas.Bool.{and_parts, or_cases}
use Rattle.std.specs.Prelude.{nat_le, Option, Some, None, IsSome, IfSome, ◌↔◌}
use Rattle.std.proofs.lemmas.Bool.Decides.{Decides-below_and, Decides-int_eq, Decides-eqb, nat_tests}
use Rattle.std.proofs.lemmas.Int.{ints}
use Rattle.std.specs.Ordering.{int_eq}
use Rattle.fux_pitch.specs.Key.{IsPitch, key_at, letter_key, natural_key}
use Rattle.fux_pitch.specs.Pitch.{degree_of, alter_of, key_of, pitch_at}
use Rattle.fux_pitch.specs.Modes.{is_in_gamut, raises}
use Rattle.fux_pitch.specs.Spelling.{class_spelling, spelled}
use Rattle.fux_pitch.specs.declared.pitch.Pitch.{Pitch}
use Rattle.fux_pitch.specs.declared.mode.Mode.{Mode}
use Rattle.fux_pitch.specs.declared.mode.Mode.TheVariants.{Dorian, Phrygian, Lydian, Mixolydian, Aeolian, Ionian}
use Rattle.fux_pitch.proofs.PitchLemmas.{pitch_at-own, pitch_at-parts, pitch_at-found, pitch_at-only}

-- each number below n passes the test
abbrev all_below : (ℕ → Bool) → ℕ → Bool
all_below test zero = true
all_below test (suc n) = test n && all_below test n

-- a number below n keeps an equation of signed numbers that computes for each of them
below_by_test : (f g : ℕ → ℤ) (n : ℕ) → all_below (λ k. int_eq (f k) (g k)) n ≡ true → (k : ℕ) → k < n → f k ≡ g k
below_by_test f g n h = (Decides-below_and (λ k. int_eq (f k) (g k)) (λ k. f k ≡ g k)
    (all_below (λ k. int_eq (f k) (g k))) (λ k. Decides-int_eq (f k) (g k)) refl (λ _. refl) n).0 h

natural_key-octave : (octave letter : ℕ) → letter < 7 → natural_key (7 * octave + letter)
    ≡ 12 + 12 * octave + letter_key letter
natural_key-octave octave letter h =
    let e : (7 * octave + letter) / 7 ≡ octave = omega arith in
    let f : (7 * octave + letter) % 7 ≡ letter = omega arith in
    rw (e, f) refl

class_spelling-letter : (class : ℕ) → class < 12 → (class_spelling class).0 < 7
class_spelling-letter class h = grind (arith, nat_tests)

class_spelling-alter : (class : ℕ) → class < 12 → (negsuc 0 ≤ℤ (class_spelling class).1)
    × ((class_spelling class).1 ≤ℤ pos 1)
class_spelling-alter class h = grind (arith, nat_tests)

class_spelling-semitones : (class : ℕ) → class < 12
    → pos (letter_key (class_spelling class).0) +ℤ (class_spelling class).1 ≡ pos class
class_spelling-semitones class h =
    below_by_test (λ k. pos (letter_key (class_spelling k).0) +ℤ (class_spelling k).1) pos 12 refl class h

key_at-octave : (octave letter : ℕ) (alter : ℤ) (class : ℕ) → letter < 7 → pos (letter_key letter) +ℤ alter ≡ pos class
    → key_at (7 * octave + letter) alter ≡ pos (12 + 12 * octave + class)
key_at-octave octave letter alter class h e =
    rw (natural_key-octave octave letter h) (omega (arith, ints))

-- the key of the degree and the alteration that a key is spelled with is the key itself
key_at-spelling : (key : ℕ) → 12 ≤ key → key_at (7 * (key / 12 - 1) + (class_spelling (key % 12)).0)
    (class_spelling (key % 12)).1 ≡ pos key
key_at-spelling key h =
    let c : key % 12 < 12 = omega arith in
    let r : 12 + 12 * (key / 12 - 1) + key % 12 ≡ key = omega arith in
    key_at-octave (key / 12 - 1) (class_spelling (key % 12)).0 (class_spelling (key % 12)).1 (key % 12)
    (class_spelling-letter (key % 12) c) (class_spelling-semitones (key % 12) c) ∙ ap pos r

-- a key of a pitch is spelled as a pitch
IsPitch-spelling : (key : ℕ) → 24 ≤ key → key ≤ 96
    → IsPitch (7 * (key / 12 - 1) + (class_spelling (key % 12)).0) (class_spelling (key % 12)).1
IsPitch-spelling key least most =
    let c : key % 12 < 12 = omega arith in
    let e : key_at (7 * (key / 12 - 1) + (class_spelling (key % 12)).0) (class_spelling (key % 12)).1
    ≡ pos key = key_at-spelling key (omega arith) in
    let low : pos 24 ≤ℤ pos key = omega (arith, ints) in
    let high : pos key ≤ℤ pos 96 = omega (arith, ints) in
    let L : ℤ → Type 0 = λ z. pos 24 ≤ℤ z in
    let H : ℤ → Type 0 = λ z. z ≤ℤ pos 96 in
    record {
      least_degree = omega arith;
      flat = (class_spelling-alter (key % 12) c).0;
      sharp = (class_spelling-alter (key % 12) c).1;
      low = subst L (sym e) low;
      high = subst H (sym e) high;
    }

key-from_degree : (key : ℕ) → 7 ≤ 7 * (key / 12 - 1) + (class_spelling (key % 12)).0 → 24 ≤ key
key-from_degree key h =
    let letter : (class_spelling (key % 12)).0 < 7 = class_spelling-letter (key % 12) (omega arith) in omega arith

-- the spelling of a key has this key
pub key_of-spelled : (key : ℕ) (p : Pitch) → spelled key ≡ Some p → key_of p ≡ pos key
unfolding spelled
key_of-spelled key p h =
    let parts : (degree_of p ≡ 7 * (key / 12 - 1) + (class_spelling (key % 12)).0)
    × (alter_of p ≡ (class_spelling (key % 12)).1) = pitch_at-parts _ _ p h in
    let L : ℕ → Type 0 = λ n. 7 ≤ n in
    let least : 24 ≤ key = key-from_degree key (subst L parts.0 p.is_pitch.least_degree) in
    ap (λ d. key_at d (alter_of p)) parts.0 ∙ ap (key_at (7 * (key / 12 - 1) + (class_spelling (key % 12)).0)) parts.1
    ∙ key_at-spelling key (omega arith)

-- exactly the keys from 24 to 96 are spelled
pub spelled-known : (key : ℕ) → IsSome (spelled key) ↔ (24 ≤ key × key ≤ 96)
unfolding spelled
spelled-known key =
    let only : IsSome (pitch_at (7 * (key / 12 - 1) + (class_spelling (key % 12)).0) (class_spelling (key % 12)).1)
    → (24 ≤ key) × (key ≤ 96) = λ h.
    let known : IsPitch (7 * (key / 12 - 1) + (class_spelling (key % 12)).0)
    (class_spelling (key % 12)).1 = pitch_at-only _ _ h in
    let least : 24 ≤ key = key-from_degree key known.least_degree in
    let H : ℤ → Type 0 = λ z. z ≤ℤ pos 96 in
    let most : pos key ≤ℤ pos 96 = subst H (key_at-spelling key (omega arith)) known.high in
    (least, omega (arith, ints)) in
    (only, λ (least, most). pitch_at-found _ _ (IsPitch-spelling key least most))

-- a letter and an alteration that are among the spellings, at this place
IsSpelledAt : ℕ → ℤ → ℕ → Type 0
IsSpelledAt letter alter class = (class < 12) × ((class_spelling class).0 ≡ letter) × ((class_spelling class).1 ≡ alter)

natural-spelled : (letter : ℕ) → letter < 7 → IsSpelledAt letter (pos 0) (letter_key letter)
unfolding IsSpelledAt
natural-spelled letter h = grind (arith, nat_tests)

flat-spelled : (letter : ℕ) → letter ≡ 6 → IsSpelledAt letter (negsuc 0) 10
unfolding IsSpelledAt
flat-spelled letter h = (omega arith, sym h, refl)

raised-spelled : (mode : Mode) (letter : ℕ) → raises mode letter ≡ true
    → IsSpelledAt letter (pos 1) (letter_key letter + 1)
unfolding IsSpelledAt
raised-spelled Dorian letter h = grind (arith, nat_tests)
raised-spelled Phrygian letter h = absurd (cc)
raised-spelled Lydian letter h = absurd (cc)
raised-spelled Mixolydian letter h = grind (arith, nat_tests)
raised-spelled Aeolian letter h = grind (arith, nat_tests)
raised-spelled Ionian letter h = absurd (cc)

-- a pitch of a gamut has one of the spellings
gamut-spelled : (mode : Mode) (bar bars : ℕ) (p : Pitch) → is_in_gamut mode bar bars p ≡ true → (class : ℕ)
    × IsSpelledAt (degree_of p % 7) (alter_of p) class
gamut-spelled mode bar bars p h =
    let letter : ℕ = degree_of p % 7 in
    let P : ℤ → Type 0 = λ a. (class : ℕ) × IsSpelledAt letter a class in
    let natural : Bool = int_eq (alter_of p) (pos 0) in
    let flat : Bool = int_eq (alter_of p) (negsuc 0) && (letter == 6) in
    let raised : Bool = int_eq (alter_of p) (pos 1) && raises mode letter in
    let last : Bool = nat_le bars (bar + 1) in
    elim (or_cases (natural || flat) (raised && last) h) [
      | inl x ↦ elim (or_cases natural flat x) [
        | inl y ↦ subst P (sym ((Decides-int_eq (alter_of p) (pos 0)).0 y))
            (letter_key letter, natural-spelled letter (omega arith))
        | inr y ↦ let parts : (int_eq (alter_of p) (negsuc 0) ≡ true) × ((letter == 6) ≡ true) = and_parts _ _ y in
            subst P (sym ((Decides-int_eq (alter_of p) (negsuc 0)).0 parts.0))
            (10, flat-spelled letter ((Decides-eqb letter 6).0 parts.1))
      ]
      | inr x ↦ let parts : (int_eq (alter_of p) (pos 1) ≡ true) × (raises mode letter ≡ true) =
          and_parts _ _ (and_parts raised last x).0 in
          subst P (sym ((Decides-int_eq (alter_of p) (pos 1)).0 parts.0))
          (letter_key letter + 1, raised-spelled mode letter parts.1)
    ]

key-at_class : (p : Pitch) (key class : ℕ) → pos key ≡ key_of p → IsSpelledAt (degree_of p % 7) (alter_of p) class → key
    ≡ 12 + 12 * (degree_of p / 7) + class
unfolding IsSpelledAt
key-at_class p key class e (small, letter, alter) =
    let semitones : pos (letter_key (class_spelling class).0) +ℤ (class_spelling class).1
    ≡ pos class = class_spelling-semitones class small in
    let f : pos (letter_key (degree_of p % 7)) +ℤ alter_of p
    ≡ pos class = ap (λ n. pos (letter_key n) +ℤ alter_of p) (sym letter)
    ∙ ap (λ z. pos (letter_key (class_spelling class).0) +ℤ z) (sym alter) ∙ semitones in
    omega (arith, ints)

spelled-at_class : (p : Pitch) (key class : ℕ) → pos key ≡ key_of p → IsSpelledAt (degree_of p % 7) (alter_of p) class
    → spelled key ≡ Some p
unfolding spelled IsSpelledAt
spelled-at_class p key class e (small, letter, alter) =
    let k : key ≡ 12 + 12 * (degree_of p / 7) + class = key-at_class p key class e (small, letter, alter) in
    let octave : key / 12 - 1 ≡ degree_of p / 7 = omega arith in
    let same : key % 12 ≡ class = omega arith in
    let degree : 7 * (key / 12 - 1) + (class_spelling (key % 12)).0
    ≡ degree_of p = ap (λ n. 7 * n + (class_spelling (key % 12)).0) octave
    ∙ ap (λ c. 7 * (degree_of p / 7) + (class_spelling c).0) same ∙ ap (λ n. 7 * (degree_of p / 7) + n) letter
    ∙ omega arith in
    let alteration : (class_spelling (key % 12)).1 ≡ alter_of p = ap (λ c. (class_spelling c).1) same ∙ alter in
    ap (λ d. pitch_at d (class_spelling (key % 12)).1) degree ∙ ap (pitch_at (degree_of p)) alteration ∙ pitch_at-own p

-- a pitch of a gamut is the spelling of its own key
pub spelled-own : (mode : Mode) (bar bars : ℕ) (p : Pitch) (key : ℕ) → pos key ≡ key_of p → is_in_gamut mode bar bars p
    ≡ true → spelled key ≡ Some p
spelled-own mode bar bars p key e h =
    let at : (class : ℕ) × IsSpelledAt (degree_of p % 7) (alter_of p) class = gamut-spelled mode bar bars p h in
    spelled-at_class p key at.0 e at.1

-- the keys that a spelling is found for, for a result that is the spelling
pub known-from_spelled : (key : ℕ) (o : Option Pitch) → o ≡ spelled key → IsSome o ↔ (24 ≤ key × key ≤ 96)
known-from_spelled key o e =
    let P : Option Pitch → Type 0 = λ x. IsSome x ↔ (24 ≤ key × key ≤ 96) in subst P (sym e) (spelled-known key)

-- a spelling has the key that it was found for
pub key_of-from_spelled : (key : ℕ) (o : Option Pitch) → o ≡ spelled key → IfSome o (λ p. key_of p ≡ pos key)
key_of-from_spelled key None e = tt
key_of-from_spelled key (Some p) e = key_of-spelled key p (sym e)
