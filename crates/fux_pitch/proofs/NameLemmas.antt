-- The names of pitches: each is the name of one pitch, and has two or three bytes of a few.
use Rattle.std.proofs.Common.{◌≡◌, ℕ, zero, suc, ◌+◌, ◌/◌, ◌%◌, ◌<◌, ◌≤◌, ℤ, pos, negsuc, ◌≤ℤ◌, Bool, true, List, length, refl, subst, arith}
use Rattle.std.specs.Prelude.{slice_index, slice_index_or, codes}
use Rattle.std.specs.List.{list_all}
use Rattle.std.proofs.lemmas.List.Sums.{AllPass-from_list_all}
use Rattle.std.proofs.lemmas.Bool.{and_from}
use Rattle.std.proofs.lemmas.Bool.Decides.{nat_tests}
use Rattle.std.proofs.lemmas.Int.{ints}
use Rattle.fux_pitch.specs.Pitch.{degree_of, alter_of}
use Rattle.fux_pitch.specs.Names.{letter_byte, name_of}
use Rattle.fux_pitch.specs.declared.pitch.Pitch.{Pitch}
use Rattle.fux_pitch.proofs.PitchLemmas.{pitch_ext}
use Rattle.fux_pitch.proofs.NameParts.{octave-range, spelled_out, SameParts, name_of-parts, letter_byte-injective}

-- names are those of one pitch each
pub name_of-injective : (p q : Pitch) → name_of p ≡ name_of q → p ≡ q
unfolding name_of
name_of-injective p q e =
    let parts : SameParts (letter_byte (degree_of p % 7)) (alter_of p) (48 + degree_of p / 7)
    (letter_byte (degree_of q % 7)) (alter_of q) (48 + degree_of q / 7) = name_of-parts p
    (letter_byte (degree_of q % 7)) (alter_of q) (48 + degree_of q / 7) q.is_pitch.flat q.is_pitch.sharp e in
    let same : degree_of p % 7 ≡ degree_of q % 7 = letter_byte-injective (degree_of p % 7) (degree_of q % 7)
    (omega arith) (omega arith) parts.same_letter in
    pitch_ext p q (omega arith) parts.same_alter

-- a name has two bytes, or three of which the second is `#` or `b`
pub data IsNameShaped (bytes : List ℕ) : Type 0 where
  two_bytes : length bytes ≡ 2 → IsNameShaped bytes
  with_sharp : length bytes ≡ 3 → slice_index bytes 1 ≡ 35 → IsNameShaped bytes
  with_flat : length bytes ≡ 3 → slice_index bytes 1 ≡ 98 → IsNameShaped bytes

spelled_out-shape : (letter : ℕ) (alter : ℤ) (digit : ℕ) → negsuc 0 ≤ℤ alter → alter ≤ℤ pos 1
    → IsNameShaped (spelled_out letter alter digit)
spelled_out-shape letter (pos zero) digit l h = two_bytes refl
spelled_out-shape letter (pos (suc zero)) digit l h = with_sharp refl refl
spelled_out-shape letter (pos (suc (suc n))) digit l h = absurd (omega (arith, ints))
spelled_out-shape letter (negsuc zero) digit l h = with_flat refl refl
spelled_out-shape letter (negsuc (suc n)) digit l h = absurd (omega (arith, ints))

-- the name of a pitch is one of these
pub name_of-shape : (p : Pitch) → IsNameShaped (name_of p)
unfolding name_of
name_of-shape p = spelled_out-shape (letter_byte (degree_of p % 7)) (alter_of p) (48 + degree_of p / 7) p.is_pitch.flat
    p.is_pitch.sharp

shaped-length : (bytes : List ℕ) → IsNameShaped bytes → (2 ≤ length bytes) × (length bytes ≤ 3)
shaped-length bytes (two_bytes e) = (omega arith, omega arith)
shaped-length bytes (with_sharp e f) = (omega arith, omega arith)
shaped-length bytes (with_flat e f) = (omega arith, omega arith)

-- in a name of three bytes the second is a sign
pub no_sign : (bytes : List ℕ) → IsNameShaped bytes → 3 ≤ length bytes → (slice_index bytes 1 ≡ 35 → ⊥)
    → (slice_index bytes 1 ≡ 98 → ⊥) → ⊥
no_sign bytes (two_bytes e) h s f = omega arith
no_sign bytes (with_sharp e f) h not_sharp not_flat = not_sharp f
no_sign bytes (with_flat e f) h not_sharp not_flat = not_flat f

-- a name has two or three bytes
pub name_of-length : (p : Pitch) → (2 ≤ length (name_of p)) × (length (name_of p) ≤ 3)
name_of-length p = shaped-length (name_of p) (name_of-shape p)

spelled_out-passes : (test : ℕ → Bool) (letter : ℕ) (alter : ℤ) (digit : ℕ) → negsuc 0 ≤ℤ alter → alter ≤ℤ pos 1
    → test 35 ≡ true → test 98 ≡ true → test letter ≡ true → test digit ≡ true
    → list_all test (spelled_out letter alter digit) ≡ true
spelled_out-passes test letter (pos zero) digit l h sharp flat first last = and_from _ _ first (and_from _ _ last refl)
spelled_out-passes test letter (pos (suc zero)) digit l h sharp flat first last =
    and_from _ _ first (and_from _ _ sharp (and_from _ _ last refl))
spelled_out-passes test letter (pos (suc (suc n))) digit l h sharp flat first last = absurd (omega (arith, ints))
spelled_out-passes test letter (negsuc zero) digit l h sharp flat first last =
    and_from _ _ first (and_from _ _ flat (and_from _ _ last refl))
spelled_out-passes test letter (negsuc (suc n)) digit l h sharp flat first last = absurd (omega (arith, ints))

-- the bytes that names are written with
abbrev pub name_bytes : List ℕ
name_bytes = codes "#1234567CDEFGABb"

letter_byte-among : (letter : ℕ) → letter < 7 → slice_index_or name_bytes (8 + letter) 0 ≡ letter_byte letter
letter_byte-among letter h = grind (arith, nat_tests)

digit-among : (octave : ℕ) → 1 ≤ octave → octave ≤ 7 → slice_index_or name_bytes octave 0 ≡ 48 + octave
digit-among octave least most = grind (arith, nat_tests)

-- each name passes a test that each of the bytes of names passes
pub name_of-passes : (test : ℕ → Bool) → list_all test name_bytes ≡ true → (p : Pitch) → list_all test (name_of p)
    ≡ true
unfolding name_of
name_of-passes test h p =
    let each : (k : ℕ) (d : ℕ) → k < 16 → test (slice_index_or name_bytes k d)
    ≡ true = AllPass-from_list_all test name_bytes h in
    let octaves : (1 ≤ degree_of p / 7) × (degree_of p / 7 ≤ 7) = octave-range p in
    let P : ℕ → Type 0 = λ b. test b ≡ true in
    spelled_out-passes test (letter_byte (degree_of p % 7)) (alter_of p) (48 + degree_of p / 7) p.is_pitch.flat
    p.is_pitch.sharp
    (each 0 0 (omega arith)) (each 15 0 (omega arith))
    (subst P (letter_byte-among (degree_of p % 7) (omega arith)) (each (8 + degree_of p % 7) 0 (omega arith)))
    (subst P (digit-among (degree_of p / 7) octaves.0 octaves.1) (each (degree_of p / 7) 0 (omega arith)))
