-- The parts of a name: its letter, its alteration and its digit are those of its pitch.
use Rattle.std.proofs.Common.{◌≡◌, ℕ, zero, suc, ◌+◌, ◌-◌, ◌*◌, ◌/◌, ◌%◌, ◌<◌, ◌≤◌, ℤ, pos, negsuc, ◌+ℤ◌, ◌≤ℤ◌, List, [], ◌∷◌, ◌++◌, length, refl, sym, ◌∙◌, ap, arith}
use Rattle.std.specs.Prelude.{Option, Some, None, IfSome, slice_index}
use Rattle.std.proofs.lemmas.Bool.Decides.{nat_tests}
use Rattle.std.proofs.lemmas.Int.{ints}
use Rattle.fux_pitch.specs.Key.{letter_key}
use Rattle.fux_pitch.specs.Pitch.{degree_of, alter_of, pitch_at}
use Rattle.fux_pitch.specs.Names.{letter_byte, accidental, name_of}
use Rattle.fux_pitch.specs.declared.pitch.Pitch.{Pitch}
use Rattle.fux_pitch.proofs.PitchLemmas.{pitch_at-parts, pitch_at-is}

-- the octaves of pitches are 1 to 7
pub octave-range : (p : Pitch) → (1 ≤ degree_of p / 7) × (degree_of p / 7 ≤ 7)
octave-range p =
    let least : 7 ≤ p.degree = p.is_pitch.least_degree in
    (omega arith, few_octaves (p.degree / 7) (letter_key (p.degree % 7)) (alter_of p) p.is_pitch.flat p.is_pitch.high)
  where
    few_octaves : (octaves letter : ℕ) (alter : ℤ) → negsuc 0 ≤ℤ alter
        → (pos (12 + 12 * octaves + letter) +ℤ alter) ≤ℤ pos 96 → octaves ≤ 7
    few_octaves octaves letter alter flat high = omega (arith, ints)

-- a letter, an alteration and a digit, as a name is written with them
abbrev pub spelled_out : ℕ → ℤ → ℕ → List ℕ
spelled_out letter alter digit = letter ∷ accidental alter ++ digit ∷ []

-- two names are written with the same parts
pub record SameParts (letter : ℕ) (alter : ℤ) (digit : ℕ) (letter' : ℕ) (alter' : ℤ) (digit' : ℕ) : Type 0 where
  pub same_letter : letter ≡ letter'
  pub same_alter : alter ≡ alter'
  pub same_digit : digit ≡ digit'

two-two : (a b x y : ℕ) → a ∷ b ∷ [] ≡ x ∷ y ∷ [] → (a ≡ x) × (b ≡ y)
two-two a b x y e = (ap (λ bs. slice_index bs 0) e, ap (λ bs. slice_index bs 1) e)

three-three : (a b c x y z : ℕ) → a ∷ b ∷ c ∷ [] ≡ x ∷ y ∷ z ∷ [] → (a ≡ x) × (b ≡ y) × (c ≡ z)
three-three a b c x y z e =
    (ap (λ bs. slice_index bs 0) e, ap (λ bs. slice_index bs 1) e, ap (λ bs. slice_index bs 2) e)

two-three : (a b x y z : ℕ) → a ∷ b ∷ [] ≡ x ∷ y ∷ z ∷ [] → ⊥
two-three a b x y z e = let n : length (a ∷ b ∷ []) ≡ length (x ∷ y ∷ z ∷ []) = ap length e in omega arith

natural-parts : (letter digit letter' : ℕ) (alter' : ℤ) (digit' : ℕ) → negsuc 0 ≤ℤ alter' → alter' ≤ℤ pos 1 → letter
    ∷ digit ∷ [] ≡ spelled_out letter' alter' digit' → SameParts letter (pos 0) digit letter' alter' digit'
natural-parts letter digit letter' (pos zero) digit' flat sharp e = let parts : (letter ≡ letter')
    × (digit ≡ digit') = two-two _ _ _ _ e in record { same_letter = parts.0; same_alter = refl; same_digit = parts.1 }
natural-parts letter digit letter' (pos (suc zero)) digit' flat sharp e =
    absurd (two-three letter digit letter' 35 digit' e)
natural-parts letter digit letter' (pos (suc (suc n))) digit' flat sharp e = absurd (omega (arith, ints))
natural-parts letter digit letter' (negsuc zero) digit' flat sharp e =
    absurd (two-three letter digit letter' 98 digit' e)
natural-parts letter digit letter' (negsuc (suc n)) digit' flat sharp e = absurd (omega (arith, ints))

sharp-parts : (letter digit letter' : ℕ) (alter' : ℤ) (digit' : ℕ) → negsuc 0 ≤ℤ alter' → alter' ≤ℤ pos 1 → letter ∷ 35
    ∷ digit ∷ [] ≡ spelled_out letter' alter' digit' → SameParts letter (pos 1) digit letter' alter' digit'
sharp-parts letter digit letter' (pos zero) digit' flat sharp e =
    absurd (two-three letter' digit' letter 35 digit (sym e))
sharp-parts letter digit letter' (pos (suc zero)) digit' flat sharp e = let parts : (letter ≡ letter') × (35 ≡ 35)
    × (digit ≡ digit') = three-three _ _ _ _ _ _ e in
    record { same_letter = parts.0; same_alter = refl; same_digit = parts.2 }
sharp-parts letter digit letter' (pos (suc (suc n))) digit' flat sharp e = absurd (omega (arith, ints))
sharp-parts letter digit letter' (negsuc zero) digit' flat sharp e =
    absurd (omega (arith, (three-three letter 35 digit letter' 98 digit' e).1))
sharp-parts letter digit letter' (negsuc (suc n)) digit' flat sharp e = absurd (omega (arith, ints))

flat-parts : (letter digit letter' : ℕ) (alter' : ℤ) (digit' : ℕ) → negsuc 0 ≤ℤ alter' → alter' ≤ℤ pos 1 → letter ∷ 98
    ∷ digit ∷ [] ≡ spelled_out letter' alter' digit' → SameParts letter (negsuc 0) digit letter' alter' digit'
flat-parts letter digit letter' (pos zero) digit' flat sharp e =
    absurd (two-three letter' digit' letter 98 digit (sym e))
flat-parts letter digit letter' (pos (suc zero)) digit' flat sharp e =
    absurd (omega (arith, (three-three letter 98 digit letter' 35 digit' e).1))
flat-parts letter digit letter' (pos (suc (suc n))) digit' flat sharp e = absurd (omega (arith, ints))
flat-parts letter digit letter' (negsuc zero) digit' flat sharp e = let parts : (letter ≡ letter') × (98 ≡ 98)
    × (digit ≡ digit') = three-three _ _ _ _ _ _ e in
    record { same_letter = parts.0; same_alter = refl; same_digit = parts.2 }
flat-parts letter digit letter' (negsuc (suc n)) digit' flat sharp e = absurd (omega (arith, ints))

-- what is written alike has the same parts
spelled_out-parts : (letter : ℕ) (alter : ℤ) (digit letter' : ℕ) (alter' : ℤ) (digit' : ℕ) → negsuc 0 ≤ℤ alter
    → alter ≤ℤ pos 1 → negsuc 0 ≤ℤ alter' → alter' ≤ℤ pos 1
    → spelled_out letter alter digit ≡ spelled_out letter' alter' digit'
    → SameParts letter alter digit letter' alter' digit'
spelled_out-parts letter (pos zero) digit letter' alter' digit' l h flat sharp e =
    natural-parts letter digit letter' alter' digit' flat sharp e
spelled_out-parts letter (pos (suc zero)) digit letter' alter' digit' l h flat sharp e =
    sharp-parts letter digit letter' alter' digit' flat sharp e
spelled_out-parts letter (pos (suc (suc n))) digit letter' alter' digit' l h flat sharp e = absurd (omega (arith, ints))
spelled_out-parts letter (negsuc zero) digit letter' alter' digit' l h flat sharp e =
    flat-parts letter digit letter' alter' digit' flat sharp e
spelled_out-parts letter (negsuc (suc n)) digit letter' alter' digit' l h flat sharp e = absurd (omega (arith, ints))

-- the parts of a name are those of its pitch
pub name_of-parts : (p : Pitch) (letter : ℕ) (alter : ℤ) (digit : ℕ) → negsuc 0 ≤ℤ alter → alter ≤ℤ pos 1
    → name_of p ≡ spelled_out letter alter digit
    → SameParts (letter_byte (degree_of p % 7)) (alter_of p) (48 + degree_of p / 7) letter alter digit
unfolding name_of
name_of-parts p letter alter digit flat sharp e = spelled_out-parts (letter_byte (degree_of p % 7)) (alter_of p)
    (48 + degree_of p / 7) letter alter digit p.is_pitch.flat p.is_pitch.sharp flat sharp e

-- two letters have different bytes
pub letter_byte-injective : (letter letter' : ℕ) → letter < 7 → letter' < 7 → letter_byte letter ≡ letter_byte letter'
    → letter ≡ letter'
letter_byte-injective letter letter' h h' e = grind (arith, nat_tests)

-- the pitch of the parts of a name is the one that has the name
pub pitch_at-name : (letter : ℕ) (alter : ℤ) (digit : ℕ) (p : Pitch) → letter < 7 → negsuc 0 ≤ℤ alter → alter ≤ℤ pos 1
    → name_of p ≡ spelled_out (letter_byte letter) alter digit → pitch_at (7 * (digit - 48) + letter) alter ≡ Some p
pitch_at-name letter alter digit p small flat sharp e =
    let parts : SameParts (letter_byte (degree_of p % 7)) (alter_of p) (48 + degree_of p / 7) (letter_byte letter) alter
    digit = name_of-parts p (letter_byte letter) alter digit flat sharp e in
    let same : degree_of p % 7 ≡ letter = letter_byte-injective (degree_of p % 7) letter (omega arith) small
    parts.same_letter in
    pitch_at-is (7 * (digit - 48) + letter) alter p (omega arith) parts.same_alter

-- the pitch of these parts has this name
pub name_of-pitch_at : (letter : ℕ) (alter : ℤ) (digit : ℕ) (p : Pitch) → letter < 7 → 48 ≤ digit
    → pitch_at (7 * (digit - 48) + letter) alter ≡ Some p
    → name_of p ≡ spelled_out (letter_byte letter) alter digit
unfolding name_of
name_of-pitch_at letter alter digit p small least h =
    let parts : (degree_of p ≡ 7 * (digit - 48) + letter) × (alter_of p ≡ alter) = pitch_at-parts _ _ p h in
    let degree : degree_of p ≡ 7 * (digit - 48) + letter = parts.0 in
    let same : degree_of p % 7 ≡ letter = omega arith in
    let digits : 48 + degree_of p / 7 ≡ digit = omega arith in
    ap (λ n. spelled_out (letter_byte n) (alter_of p) (48 + degree_of p / 7)) same
    ∙ ap (λ z. spelled_out (letter_byte letter) z (48 + degree_of p / 7)) parts.1
    ∙ ap (spelled_out (letter_byte letter) alter) digits

-- the digit of a name is 1 to 7
pub name_of-digit : (p : Pitch) (letter : ℕ) (alter : ℤ) (digit : ℕ) → negsuc 0 ≤ℤ alter → alter ≤ℤ pos 1 → name_of p
    ≡ spelled_out letter alter digit → (49 ≤ digit) × (digit ≤ 55)
name_of-digit p letter alter digit flat sharp e =
    let parts : SameParts (letter_byte (degree_of p % 7)) (alter_of p) (48 + degree_of p / 7) letter alter
    digit = name_of-parts p letter alter digit flat sharp e in
    let octaves : (1 ≤ degree_of p / 7) × (degree_of p / 7 ≤ 7) = octave-range p in
    (omega arith, omega arith)

-- what is found for the parts of a name has the name
pub named_by_parts : (letter : ℕ) (alter : ℤ) (digit byte : ℕ) (o : Option Pitch) → letter < 7 → letter_byte letter
    ≡ byte → 48 ≤ digit → o ≡ pitch_at (7 * (digit - 48) + letter) alter
    → IfSome o (λ p. name_of p ≡ spelled_out byte alter digit)
named_by_parts letter alter digit byte None small same least e = tt
named_by_parts letter alter digit byte (Some p) small same least e =
    name_of-pitch_at letter alter digit p small least (sym e) ∙ ap (λ n. spelled_out n alter digit) same

-- what has the name is found by its parts
pub found_by_parts : (letter : ℕ) (alter : ℤ) (digit byte : ℕ) (o : Option Pitch) → letter < 7 → letter_byte letter
    ≡ byte → negsuc 0 ≤ℤ alter → alter ≤ℤ pos 1 → o ≡ pitch_at (7 * (digit - 48) + letter) alter
    → (p : Pitch) → name_of p ≡ spelled_out byte alter digit → o ≡ Some p
found_by_parts letter alter digit byte o small same flat sharp e p h =
    e ∙ pitch_at-name letter alter digit p small flat sharp (h ∙ ap (λ n. spelled_out n alter digit) (sym same))

-- no letter is found where none has the byte
pub none_is_some : (n : ℕ) → None ≡ Some n → ⊥
none_is_some n e = cc
