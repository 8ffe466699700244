-- Each letter has a pitch in the fourth octave, alone and with a sign (`natural-four`,
-- `sharp-four`, `flat-four`).
use Rattle.std.proofs.Common.{◌≡◌, ℕ, zero, suc, ◌+◌, ◌-◌, ◌<◌, ◌≤◌, ℤ, pos, negsuc, true, List, [], ◌∷◌, refl, subst, arith}
use Rattle.fux_pitch.specs.declared.pitch.Pitch.{Pitch}
use Rattle.fux_pitch.specs.Key.{IsPitch-from_test, has_pitch}
use Rattle.fux_pitch.specs.Names.{name_of}
use Rattle.fux_pitch.specs.Pitch.{pitch_made}

abbrev pitch_from : (degree : ℕ) (alter : ℤ) → has_pitch degree alter ≡ true → Pitch
pitch_from degree alter e = pitch_made degree alter (IsPitch-from_test degree alter e)

-- the text is a pitch's name
abbrev pub Names : List ℕ → Type 0
Names text = (p : Pitch) × (name_of p ≡ text)

spelled : (degree : ℕ) (alter : ℤ) (e : has_pitch degree alter ≡ true) → Names (name_of (pitch_from degree alter e))
spelled degree alter e = (pitch_from degree alter e, refl)

naturals : (k : ℕ) → k < 7 → Names ((65 + k) ∷ 52 ∷ [])
unfolding name_of
naturals zero h = spelled 33 (pos 0) refl
naturals (suc zero) h = spelled 34 (pos 0) refl
naturals (suc (suc zero)) h = spelled 28 (pos 0) refl
naturals (suc (suc (suc zero))) h = spelled 29 (pos 0) refl
naturals (suc (suc (suc (suc zero)))) h = spelled 30 (pos 0) refl
naturals (suc (suc (suc (suc (suc zero))))) h = spelled 31 (pos 0) refl
naturals (suc (suc (suc (suc (suc (suc zero)))))) h = spelled 32 (pos 0) refl
naturals (suc (suc (suc (suc (suc (suc (suc k))))))) h = absurd (omega (arith, h))

sharps : (k : ℕ) → k < 7 → Names ((65 + k) ∷ 35 ∷ 52 ∷ [])
unfolding name_of
sharps zero h = spelled 33 (pos 1) refl
sharps (suc zero) h = spelled 34 (pos 1) refl
sharps (suc (suc zero)) h = spelled 28 (pos 1) refl
sharps (suc (suc (suc zero))) h = spelled 29 (pos 1) refl
sharps (suc (suc (suc (suc zero)))) h = spelled 30 (pos 1) refl
sharps (suc (suc (suc (suc (suc zero))))) h = spelled 31 (pos 1) refl
sharps (suc (suc (suc (suc (suc (suc zero)))))) h = spelled 32 (pos 1) refl
sharps (suc (suc (suc (suc (suc (suc (suc k))))))) h = absurd (omega (arith, h))

flats : (k : ℕ) → k < 7 → Names ((65 + k) ∷ 98 ∷ 52 ∷ [])
unfolding name_of
flats zero h = spelled 33 (negsuc 0) refl
flats (suc zero) h = spelled 34 (negsuc 0) refl
flats (suc (suc zero)) h = spelled 28 (negsuc 0) refl
flats (suc (suc (suc zero))) h = spelled 29 (negsuc 0) refl
flats (suc (suc (suc (suc zero)))) h = spelled 30 (negsuc 0) refl
flats (suc (suc (suc (suc (suc zero))))) h = spelled 31 (negsuc 0) refl
flats (suc (suc (suc (suc (suc (suc zero)))))) h = spelled 32 (negsuc 0) refl
flats (suc (suc (suc (suc (suc (suc (suc k))))))) h = absurd (omega (arith, h))

-- a letter by its place among the letters
by_letter : (P : ℕ → Type 0) → ((k : ℕ) → k < 7 → P (65 + k)) → (letter : ℕ) → 65 ≤ letter → letter ≤ 71 → P letter
by_letter P each letter least most =
    let same : 65 + (letter - 65) ≡ letter = omega (arith, least) in
    subst P same (each (letter - 65) (omega (arith, least, most)))

pub natural-four : (letter : ℕ) → 65 ≤ letter → letter ≤ 71 → Names (letter ∷ 52 ∷ [])
natural-four = by_letter (λ letter. Names (letter ∷ 52 ∷ [])) naturals

pub sharp-four : (letter : ℕ) → 65 ≤ letter → letter ≤ 71 → Names (letter ∷ 35 ∷ 52 ∷ [])
sharp-four = by_letter (λ letter. Names (letter ∷ 35 ∷ 52 ∷ [])) sharps

pub flat-four : (letter : ℕ) → 65 ≤ letter → letter ≤ 71 → Names (letter ∷ 98 ∷ 52 ∷ [])
flat-four = by_letter (λ letter. Names (letter ∷ 98 ∷ 52 ∷ [])) flats
