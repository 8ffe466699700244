-- Where bytes stop being the name of a pitch (`pitches-stop`) or of an item (`names-stop`). No name
-- begins another one (`names-alone`).
use Rattle.std.proofs.Common.{◌≡◌, ◌⊎◌, inl, inr, ℕ, zero, suc, ◌+◌, ◌/◌, ◌%◌, ◌<◌, ◌≤◌, ℤ, pos, negsuc, ◌≤ℤ◌, Bool, true, false, List, [], ◌∷◌, ◌++◌, Some, length, take, refl, sym, ap, ◌∙◌, arith}
use Rattle.std.specs.Prelude.{◌==◌, ◌||◌, IsTrue, nat_le}
use Rattle.std.proofs.lemmas.Bool.{and_parts, eqb-true, false≢true}
use Rattle.std.proofs.lemmas.Bool.Decides.{nat_tests}
use Rattle.std.proofs.lemmas.Int.{ints}
use Rattle.fux_pitch.specs.declared.pitch.Pitch.{Pitch}
use Rattle.fux_pitch.specs.Names.{accidental, letter_byte, name_of}
use Rattle.fux_pitch.specs.Pitch.{alter_of, degree_of}
use Rattle.fux_pitch.proofs.NameParts.{octave-range}
use Rattle.fux_pitch.proofs.PitchLemmas.{equal_from_test}
use Rattle.fux_grid.specs.declared.cell.Cell.{Cell}
use Rattle.fux_grid.specs.declared.cell.Cell.TheVariants.{Rest, Hold, Start}
use Rattle.fux_grid.specs.Cells.{cell_follows}
use Rattle.fux_text.specs.Items.{item_name}
use Rattle.fux_text.specs.Names.{pitch_named}
use Rattle.fux_text.proofs.OwnWords.{pitch-own}
use Rattle.cert_text.specs.HeadRows.{ItemName, PitchName, can_stand, is_letter, is_sign}
use Rattle.cert_text.specs.Pieces.{Begins, Stops, StopsAt}
use Rattle.cert_text.proofs.FourthOctave.{flat-four, natural-four, sharp-four}
use Rattle.cert_text.proofs.PieceLemmas.{Alone}

-- ---- the names of pitches

-- a name is a letter, or a letter and a sign, and a digit
data Spelled (text : List ℕ) : Type 0 where
  natural : (l d : ℕ) → 65 ≤ l → l ≤ 71 → 48 ≤ d → d ≤ 57 → text ≡ l ∷ d ∷ [] → Spelled text
  signed : (l s d : ℕ) → 65 ≤ l → l ≤ 71 → (s ≡ 35) ⊎ (s ≡ 98) → text ≡ l ∷ s ∷ d ∷ [] → Spelled text

letter-range : (letter : ℕ) → letter < 7 → (65 ≤ letter_byte letter) × (letter_byte letter ≤ 71)
letter-range zero h = (omega arith, omega arith)
letter-range (suc zero) h = (omega arith, omega arith)
letter-range (suc (suc zero)) h = (omega arith, omega arith)
letter-range (suc (suc (suc zero))) h = (omega arith, omega arith)
letter-range (suc (suc (suc (suc zero)))) h = (omega arith, omega arith)
letter-range (suc (suc (suc (suc (suc zero))))) h = (omega arith, omega arith)
letter-range (suc (suc (suc (suc (suc (suc zero)))))) h = (omega arith, omega arith)
letter-range (suc (suc (suc (suc (suc (suc (suc n))))))) h = absurd (omega (arith, h))

spelled : (p : Pitch) → Spelled (name_of p)
unfolding name_of
spelled p = by (alter_of p) p.is_pitch.flat p.is_pitch.sharp
  where
    l : ℕ
    l = letter_byte (degree_of p % 7)

    d : ℕ
    d = 48 + degree_of p / 7

    letters : (65 ≤ l) × (l ≤ 71)
    letters = letter-range (degree_of p % 7) (omega arith)

    by : (alter : ℤ) → negsuc 0 ≤ℤ alter → alter ≤ℤ pos 1 → Spelled (l ∷ accidental alter ++ d ∷ [])
    by (pos zero) low high =
        let octaves = octave-range p in
        Spelled.natural l d letters.0 letters.1 (omega arith) (omega (arith, octaves)) refl
    by (pos (suc zero)) low high = Spelled.signed l 35 d letters.0 letters.1 (inl refl) refl
    by (pos (suc (suc n))) low high = absurd (omega (arith, ints))
    by (negsuc zero) low high = Spelled.signed l 98 d letters.0 letters.1 (inr refl) refl
    by (negsuc (suc n)) low high = absurd (omega (arith, ints))

same_pitch-of : (p q : Pitch) → name_of p ≡ name_of q → p ≡ q
same_pitch-of p q e =
    let both : Some p ≡ Some q = sym (pitch-own p) ∙ ap pitch_named e ∙ pitch-own q in cc

pub pitches-alone : Alone PitchName
pitches-alone p q f g a b s t e =
    by (spelled p) (spelled q) (ap (λ w. w ++ a) (sym s) ∙ e ∙ ap (λ w. w ++ b) t)
  where
    apart : (s : ℕ) → (s ≡ 35) ⊎ (s ≡ 98) → (d : ℕ) → d ≡ s → 48 ≤ d → d ≤ 57 → ⊥
    apart s (inl sharp) d same least most = omega (arith, sharp, same, least, most)
    apart s (inr flat) d same least most = omega (arith, flat, same, least, most)

    same : name_of p ≡ name_of q → (p ≡ q) × (f ≡ g)
    same d = (same_pitch-of p q d, s ∙ d ∙ sym t)

    by : Spelled (name_of p) → Spelled (name_of q) → name_of p ++ a ≡ name_of q ++ b → (p ≡ q) × (f ≡ g)
    by (Spelled.natural l d low high least most x) (Spelled.natural l' d' low' high' least' most' y) whole =
        let both : l ∷ d ∷ a ≡ l' ∷ d' ∷ b = ap (λ w. w ++ a) (sym x) ∙ whole ∙ ap (λ w. w ++ b) y in
        let first : l ≡ l' = cc in
        let last : d ≡ d' = cc in
        same (x ∙ ap (λ c. c ∷ d ∷ []) first ∙ ap (λ c. l' ∷ c ∷ []) last ∙ sym y)
    by (Spelled.natural l d low high least most x) (Spelled.signed l' s' d' low' high' sign y) whole =
        let both : l ∷ d ∷ a ≡ l' ∷ s' ∷ d' ∷ b = ap (λ w. w ++ a) (sym x) ∙ whole ∙ ap (λ w. w ++ b) y in
        let second : d ≡ s' = cc in
        absurd (apart s' sign d second least most)
    by (Spelled.signed l s d low high sign x) (Spelled.natural l' d' low' high' least' most' y) whole =
        let both : l ∷ s ∷ d ∷ a ≡ l' ∷ d' ∷ b = ap (λ w. w ++ a) (sym x) ∙ whole ∙ ap (λ w. w ++ b) y in
        let second : d' ≡ s = cc in
        absurd (apart s sign d' second least' most')
    by (Spelled.signed l s d low high sign x) (Spelled.signed l' s' d' low' high' sign' y) whole =
        let both : l ∷ s ∷ d ∷ a ≡ l' ∷ s' ∷ d' ∷ b = ap (λ w. w ++ a) (sym x) ∙ whole ∙ ap (λ w. w ++ b) y in
        let first : l ≡ l' = cc in
        let second : s ≡ s' = cc in
        let last : d ≡ d' = cc in
        same (x ∙ ap (λ c. c ∷ s ∷ d ∷ []) first ∙ ap (λ c. l' ∷ c ∷ d ∷ []) second ∙ ap (λ c. l' ∷ s' ∷ c ∷ []) last
        ∙ sym y)

-- no name is shorter than two bytes
short_name : (p : Pitch) (text : List ℕ) → text ≡ name_of p → length text ≤ 1 → ⊥
short_name p text e few = by (spelled p)
  where
    by : Spelled (name_of p) → ⊥
    by (Spelled.natural l d low high least most x) = omega (arith, ap length (e ∙ x), few)
    by (Spelled.signed l s d low high sign x) = omega (arith, ap length (e ∙ x), few)

-- where no name stands at the front, they are a name's front as far as they are a letter, or a
-- letter and a sign
module _ (bytes : List ℕ)
    (two : (p : Pitch) → 2 ≤ length bytes → take 2 bytes ≡ name_of p → ⊥)
    (three : (p : Pitch) → 3 ≤ length bytes → take 3 bytes ≡ name_of p → ⊥) where
  -- and each begins with a letter
  lettered : (p : Pitch) (l : ℕ) (more : List ℕ) → l ∷ more ≡ name_of p → is_letter l ≡ true
  lettered p l more e = by (spelled p)
    where
      by : Spelled (name_of p) → is_letter l ≡ true
      by (Spelled.natural k d low high least most x) =
          let whole : l ∷ more ≡ k ∷ d ∷ [] = e ∙ x in let same : l ≡ k = cc in grind (arith, nat_tests)
      by (Spelled.signed k s d low high sign x) =
          let whole : l ∷ more ≡ k ∷ s ∷ d ∷ [] = e ∙ x in let same : l ≡ k = cc in grind (arith, nat_tests)

  -- behind the letter stands a digit, which ends the name, or a sign and a digit
  second : (p : Pitch) (l s : ℕ) (more : List ℕ) → l ∷ s ∷ more ≡ name_of p
      → (more ≡ []) ⊎ ((is_sign s ≡ true) × (length more ≡ 1))
  second p l s more e = by (spelled p)
    where
      by : Spelled (name_of p) → (more ≡ []) ⊎ ((is_sign s ≡ true) × (length more ≡ 1))
      by (Spelled.natural k d low high least most x) =
          let whole : l ∷ s ∷ more ≡ k ∷ d ∷ [] = e ∙ x in let none : more ≡ [] = cc in inl none
      by (Spelled.signed k t d low high (inl sharp) x) =
          let whole : l ∷ s ∷ more ≡ k ∷ t ∷ d ∷ [] = e ∙ x in
          let same : s ≡ t = cc in
          inr (grind (arith, nat_tests), omega (arith, ap length whole))
      by (Spelled.signed k t d low high (inr flat) x) =
          let whole : l ∷ s ∷ more ≡ k ∷ t ∷ d ∷ [] = e ∙ x in
          let same : s ≡ t = cc in
          inr (grind (arith, nat_tests), omega (arith, ap length whole))

  letters : (l : ℕ) → is_letter l ≡ true → (65 ≤ l) × (l ≤ 71)
  letters l e =
      let p = and_parts (nat_le 65 l) (nat_le l 71) e in
      (let t = p.0 in grind (arith, nat_tests), let t = p.1 in grind (arith, nat_tests))

  -- a letter alone
  letter-begins : (l : ℕ) → is_letter l ≡ true → Begins PitchName (l ∷ [])
  letter-begins l e =
      let range = letters l e in
      let named = natural-four l range.0 range.1 in (named.0, 52 ∷ [], sym named.1)

  sign-begins : (l s : ℕ) → is_letter l ≡ true → is_sign s ≡ true → Begins PitchName (l ∷ s ∷ [])
  sign-begins l s e f = by (s == 35) (s == 98) refl refl f
    where
      by : (a b : Bool) → (s == 35) ≡ a → (s == 98) ≡ b → (a || b) ≡ true → Begins PitchName (l ∷ s ∷ [])
      by true b g h t =
          let range = letters l e in
          let named = sharp-four l range.0 range.1 in
          (named.0, 52 ∷ [], ap (λ c. l ∷ c ∷ 52 ∷ []) (eqb-true s 35 g) ∙ sym named.1)
      by false true g h t =
          let range = letters l e in
          let named = flat-four l range.0 range.1 in
          (named.0, 52 ∷ [], ap (λ c. l ∷ c ∷ 52 ∷ []) (eqb-true s 98 h) ∙ sym named.1)
      by false false g h t = absurd (false≢true t)

  -- no letter stands at the front
  pub none-begun : ((l : ℕ) (more : List ℕ) → bytes ≡ l ∷ more → is_letter l ≡ false) → StopsAt PitchName [] bytes
  none-begun other = record {
    begins = let named = natural-four 65 (omega arith) (omega arith) in (named.0, 65 ∷ 52 ∷ [], sym named.1);
    open_ = λ p e. short_name p [] e (omega arith);
    longest = λ b more e (p, r, text).
        absurd (false≢true (sym (other b more e) ∙ lettered p b r text));
  }

  pub letter-begun : (l : ℕ) (more : List ℕ) → bytes ≡ l ∷ more → is_letter l ≡ true
      → ((s : ℕ) (rest : List ℕ) → more ≡ s ∷ rest → is_sign s ≡ false) → StopsAt PitchName (l ∷ []) more
  letter-begun l more e letter other = record {
    begins = letter-begins l letter;
    open_ = λ p f. short_name p (l ∷ []) f (omega arith);
    longest = λ s rest f (p, r, text). by p s rest r f text (second p l s r text);
  }
    where
      by : (p : Pitch) (s : ℕ) (rest r : List ℕ) → more ≡ s ∷ rest → l ∷ s ∷ r ≡ name_of p
          → (r ≡ []) ⊎ ((is_sign s ≡ true) × (length r ≡ 1)) → ⊥
      by p s rest r f text (inl none) =
          let whole : bytes ≡ l ∷ s ∷ rest = e ∙ ap (λ t. l ∷ t) f in
          two p (omega (arith, ap length whole))
          (ap (take 2) whole ∙ ap (λ t. l ∷ s ∷ t) (sym none) ∙ text)
      by p s rest r f text (inr sign) = absurd (false≢true (sym (other s rest f) ∙ sign.0))

  pub sign-begun : (l s : ℕ) (more : List ℕ) → bytes ≡ l ∷ s ∷ more → is_letter l ≡ true → is_sign s ≡ true
      → StopsAt PitchName (l ∷ s ∷ []) more
  sign-begun l s more e letter sign = record {
    begins = sign-begins l s letter sign;
    open_ = λ p f. two p (omega (arith, ap length e)) (ap (take 2) e ∙ f);
    longest = λ d rest f (p, r, text). by p d rest r f text (second p l s (d ∷ r) text);
  }
    where
      by : (p : Pitch) (d : ℕ) (rest r : List ℕ) → more ≡ d ∷ rest → l ∷ s ∷ d ∷ r ≡ name_of p
          → (d ∷ r ≡ []) ⊎ ((is_sign s ≡ true) × (length (d ∷ r) ≡ 1)) → ⊥
      by p d rest r f text (inl none) = omega (arith, ap length none)
      by p d [] [] f text (inr both) =
          let whole : bytes ≡ l ∷ s ∷ d ∷ [] = e ∙ ap (λ t. l ∷ s ∷ t) f in
          three p (omega (arith, ap length whole)) (ap (take 3) whole ∙ text)
      by p d (x ∷ rest) [] f text (inr both) =
          let whole : bytes ≡ l ∷ s ∷ d ∷ x ∷ rest = e ∙ ap (λ t. l ∷ s ∷ t) f in
          three p (omega (arith, ap length whole)) (ap (take 3) whole ∙ text)
      by p d rest (x ∷ r) f text (inr both) = omega (arith, both.1)

-- ---- the names of items

hold-of_one : (before : Cell) (p q : Pitch) → cell_follows before (Hold p) ≡ true → cell_follows before (Hold q) ≡ true
    → p ≡ q
hold-of_one Rest p q e f = absurd (false≢true e)
hold-of_one (Hold c) p q e f = sym (equal_from_test c p e) ∙ equal_from_test c q f
hold-of_one (Start c) p q e f = sym (equal_from_test c p e) ∙ equal_from_test c q f

-- a rest and a hold begin with no letter
no_letter : (p : Pitch) (a b : List ℕ) (byte : ℕ) → 71 < byte → byte ∷ a ≡ name_of p ++ b → ⊥
no_letter p a b byte high e = by (spelled p)
  where
    by : Spelled (name_of p) → ⊥
    by (Spelled.natural l d low most least last x) =
        let whole : byte ∷ a ≡ l ∷ d ∷ b = e ∙ ap (λ w. w ++ b) x in
        let same : byte ≡ l = cc in omega (arith, same, most, high)
    by (Spelled.signed l s d low most sign x) =
        let whole : byte ∷ a ≡ l ∷ s ∷ d ∷ b = e ∙ ap (λ w. w ++ b) x in
        let same : byte ≡ l = cc in omega (arith, same, most, high)

pub names-alone : (i : ℕ) (before : Cell) → Alone (ItemName i before)
names-alone i before c d f g a b s t e =
    by c d s.0 t.0 s.1 t.1 (ap (λ w. w ++ a) (sym s.1) ∙ e ∙ ap (λ w. w ++ b) t.1)
  where
    by : (c d : Cell) → IsTrue (can_stand i before c) → IsTrue (can_stand i before d) → f ≡ item_name c
        → g ≡ item_name d → item_name c ++ a ≡ item_name d ++ b → (c ≡ d) × (f ≡ g)
    by Rest Rest s t x y whole = (refl, x ∙ sym y)
    by Rest (Hold q) s t x y whole = absurd (grind (arith, whole))
    by Rest (Start q) s t x y whole = absurd (no_letter q a b 114 (omega arith) whole)
    by (Hold p) Rest s t x y whole = absurd (grind (arith, whole))
    by (Hold p) (Hold q) s t x y whole =
        let one = and_parts (i % 8 == 0) (cell_follows before (Hold p)) s in
        let two = and_parts (i % 8 == 0) (cell_follows before (Hold q)) t in
        (ap Hold (hold-of_one before p q one.1 two.1), x ∙ sym y)
    by (Hold p) (Start q) s t x y whole = absurd (no_letter q a b 95 (omega arith) whole)
    by (Start p) Rest s t x y whole = absurd (no_letter p b a 114 (omega arith) (sym whole))
    by (Start p) (Hold q) s t x y whole = absurd (no_letter p b a 95 (omega arith) (sym whole))
    by (Start p) (Start q) s t x y whole =
        let same = pitches-alone p q f g a b x y (ap (λ w. w ++ a) x ∙ whole ∙ ap (λ w. w ++ b) (sym y)) in
        (ap Start same.0, same.1)

-- where no rest and no hold comes next, a name goes on as far as that of a pitch does
pub names-stop : (i : ℕ) (before : Cell) (bytes : List ℕ) (left : ℕ)
    → ((c : Cell) (b : ℕ) (more : List ℕ) → bytes ≡ b ∷ more → IsTrue (can_stand i before c) → item_name c ≡ b ∷ [] → ⊥)
    → Stops PitchName bytes left → Stops (ItemName i before) bytes left
names-stop i before bytes left none stop = record {
  front = stop.front;
  rest = stop.rest;
  parts = stop.parts;
  count = stop.count;
  here = record {
    begins = let begun = stop.here.begins in (Start begun.0, begun.1, (refl, begun.2));
    open_ = λ c text. whole c text.0 text.1;
    longest = λ b more e (c, r, text). longer c text.0 b more r e text.1;
  };
}
  where
    whole : (c : Cell) → IsTrue (can_stand i before c) → stop.front ≡ item_name c → ⊥
    whole Rest s e = none Rest 114 stop.rest (stop.parts ∙ ap (λ w. w ++ stop.rest) e) s refl
    whole (Hold p) s e = none (Hold p) 95 stop.rest (stop.parts ∙ ap (λ w. w ++ stop.rest) e) s refl
    whole (Start p) s e = stop.here.open_ p e

    -- a name of one byte doesn't come next
    one_byte : (c : Cell) (x b : ℕ) (front more r : List ℕ) → IsTrue (can_stand i before c) → item_name c ≡ x ∷ []
        → bytes ≡ front ++ b ∷ more → (front ++ b ∷ []) ++ r ≡ x ∷ [] → ⊥
    one_byte c x b [] more r s name parts text =
        let same : b ≡ x = cc in none c b more parts s (name ∙ ap (λ y. y ∷ []) (sym same))
    one_byte c x b (y ∷ front) more r s name parts text =
        let same : y ≡ x = cc in none c y (front ++ b ∷ more) parts s (name ∙ ap (λ z. z ∷ []) (sym same))

    longer : (c : Cell) → IsTrue (can_stand i before c) → (b : ℕ) (more r : List ℕ) → stop.rest ≡ b ∷ more
        → (stop.front ++ b ∷ []) ++ r ≡ item_name c → ⊥
    longer Rest s b more r e text =
        one_byte Rest 114 b stop.front more r s refl (stop.parts ∙ ap (λ w. stop.front ++ w) e) text
    longer (Hold p) s b more r e text =
        one_byte (Hold p) 95 b stop.front more r s refl (stop.parts ∙ ap (λ w. stop.front ++ w) e) text
    longer (Start p) s b more r e text = stop.here.longest b more e (p, r, text)

-- a byte calls no rest or hold that can stand there
pub no-name : (i byte : ℕ) (before : Cell) → (byte ≡ 114 → IsTrue (can_stand i before Rest) → ⊥)
    → (byte ≡ 95 → (p : Pitch) → IsTrue (can_stand i before (Hold p)) → ⊥)
    → (c : Cell) → IsTrue (can_stand i before c) → item_name c ≡ byte ∷ [] → ⊥
no-name i byte before rest hold Rest s e = let same : byte ≡ 114 = cc in rest same s
no-name i byte before rest hold (Hold p) s e = let same : byte ≡ 95 = cc in hold same p s
no-name i byte before rest hold (Start p) s e = short_name p (byte ∷ []) (sym e) (omega arith)
