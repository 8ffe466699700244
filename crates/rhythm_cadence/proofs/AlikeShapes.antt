-- Where all shapes that a voice may have in a bar have one letter at a column's slot, and its cell
-- is one that a shape allows, a list stays orderly with the column (`alike_orderly`), so that it
-- settles no break of S3 (`alike_unbroken`), and the shapes begun stay within a bar
-- (`shapes_stay`).
use Rattle.std.proofs.Common.{◌≡◌, ℕ, ◌+◌, ◌-◌, ◌*◌, ◌/◌, ◌%◌, ◌<◌, ◌==◌, Bool, true, false, ◌&&◌, ◌||◌, List, [], ◌∷◌, ◌++◌, length, refl, ap, sym, ◌∙◌, inl, inr, arith}
use Rattle.std.specs.Prelude.{nat_eq, slice_index, if◌then◌else◌}
use Rattle.std.specs.List.{starts_with}
use Rattle.std.proofs.Math.Bool.{and-true}
use Rattle.std.proofs.lemmas.Bool.{and_from, and_parts, and_right, cases_Bool, eqb-false, eqb-true, or_left, or_right}
use Rattle.fux_grid.specs.declared.cell.Cell.{Cell}
use Rattle.fux_grid.specs.declared.exercise.Exercise.{Exercise}
use Rattle.fux_grid.specs.Cells.{cell_in}
use Rattle.fux_grid.specs.Exercises.{IsFree, bar_of, slot_of}
use Rattle.fux_grid.specs.Letters.{bar_columns, letters_of}
use Rattle.fux_grid.specs.Orderly.{HasBegun, IsOrderly, voice_shapes}
use Rattle.fux_grid.specs.Shapes.{allows, begins_shape, letter_of}
use Rattle.fux_grid.proofs.OrderlyLemmas.{bar_columns-newest, orderly-more}
use Rattle.fux_grid.proofs.ShapeBeginnings.{letters_of-append}
use Rattle.rule_law.specs.Bars.{begins_bar}
use Rattle.rule_law.specs.Growth.{newly}
use Rattle.rule_law.specs.Places.{reading_of, settled_by}
use Rattle.rule_law.specs.Rulebooks.{newly_breaks}
use Rattle.rhythm_cadence.specs.Book.{shape_rule}
use Rattle.rhythm_cadence.specs.Parts.{all_have, are_alike, shape_set, shapes_begun}
use Rattle.rhythm_cadence.specs.Rows.{broken_in, enough_after}
use Rattle.rhythm_cadence.proofs.NewestBars.{bar_before, begun-more, begun-within, length-letters, letter_is_some, newest_bar-within, newest_columns-within, none_before}
use Rattle.rhythm_cadence.proofs.OrderlyReadings.{orderly-unbroken}
use Rattle.rhythm_cadence.proofs.ShapeSets.{starts_with-more}

-- a letter that all have and one that some shape has are one
pub same_letter : (slot l m : ℕ) (shapes : List (List ℕ)) → all_have slot m shapes ≡ true → allows shapes slot l ≡ true
    → l ≡ m
same_letter slot l m [] all some = cc
same_letter slot l m (shape ∷ shapes) all some =
    let both = and_parts (slice_index shape slot == m) (all_have slot m shapes) all in
    at (slice_index shape slot == l) refl both.0 some (same_letter slot l m shapes both.1)
  where
    at : (b : Bool) → (slice_index shape slot == l) ≡ b → (slice_index shape slot == m) ≡ true
        → (b || allows shapes slot l) ≡ true → (allows shapes slot l ≡ true → l ≡ m) → l ≡ m
    at true e f k later = sym (eqb-true (slice_index shape slot) l e) ∙ eqb-true (slice_index shape slot) m f
    at false e f k later = later k

-- so where they are alike all have it
have_letter : (slot l : ℕ) (shapes : List (List ℕ)) → are_alike slot shapes ≡ true → allows shapes slot l ≡ true
    → all_have slot l shapes ≡ true
have_letter slot l shapes alike some =
    at (all_have slot 72 shapes) (all_have slot 83 shapes) refl refl alike
  where
    of : (m : ℕ) → all_have slot m shapes ≡ true → all_have slot l shapes ≡ true
    of m all = ap (λ n. all_have slot n shapes) (same_letter slot l m shapes all some) ∙ all

    at : (a b : Bool) → all_have slot 72 shapes ≡ a → all_have slot 83 shapes ≡ b
        → ((a || b) || all_have slot 82 shapes) ≡ true → all_have slot l shapes ≡ true
    at true b e f k = of 72 e
    at false true e f k = of 83 f
    at false false e f k = of 82 k

-- letters that begin a shape do so with one more where all shapes have it there
goes_on : (letters : List ℕ) (l : ℕ) (shapes : List (List ℕ)) → 0 < l → all_have (length letters) l shapes ≡ true
    → begins_shape shapes letters ≡ true → begins_shape shapes (letters ++ l ∷ []) ≡ true
goes_on letters l [] some all begun = cc
goes_on letters l (shape ∷ shapes) some all begun =
    let both = and_parts (slice_index shape (length letters) == l) (all_have (length letters) l shapes) all in
    at (starts_with nat_eq shape letters) refl both.0 begun (goes_on letters l shapes some both.1)
  where
    at : (b : Bool) → starts_with nat_eq shape letters ≡ b → (slice_index shape (length letters) == l) ≡ true
        → (b || begins_shape shapes letters) ≡ true
        → (begins_shape shapes letters ≡ true → begins_shape shapes (letters ++ l ∷ []) ≡ true)
        → (starts_with nat_eq shape (letters ++ l ∷ []) || begins_shape shapes (letters ++ l ∷ [])) ≡ true
    at true e f k later =
        or_left (starts_with nat_eq shape (letters ++ l ∷ [])) (begins_shape shapes (letters ++ l ∷ []))
        (starts_with-more shape letters l some
        ∙ and_from (starts_with nat_eq shape letters) (slice_index shape (length letters) == l) e f)
    at false e f k later =
        or_right (starts_with nat_eq shape (letters ++ l ∷ [])) (begins_shape shapes (letters ++ l ∷ [])) (later k)

-- so the set of those that begin so stays
same_set : (begun : List ℕ → Bool) (slot l : ℕ) (shapes : List (List ℕ)) → all_have slot l shapes ≡ true
    → shape_set (λ shape. begun shape && (slice_index shape slot == l)) shapes ≡ shape_set begun shapes
same_set begun slot l [] all = refl
same_set begun slot l (shape ∷ shapes) all =
    let both = and_parts (slice_index shape slot == l) (all_have slot l shapes) all in
    let first : (begun shape && (slice_index shape slot == l)) ≡ begun shape =
    ap (λ b. begun shape && b) both.0 ∙ and-true (begun shape) in
    ap (λ b. (if b then 1 else 0) + 2 * shape_set (λ s. begun s && (slice_index s slot == l)) shapes) first
    ∙ ap (λ n. (if begun shape then 1 else 0) + 2 * n) (same_set begun slot l shapes both.1)

pub shapes_stay : (ex : Exercise) (v : ℕ) (p : List (List Cell)) (col : List Cell) → begins_bar (length p) ≡ false
    → all_have (slot_of (length p)) (letter_of (cell_in col v)) (voice_shapes ex v (bar_of (length p))) ≡ true
    → shapes_begun ex v (p ++ col ∷ []) ≡ shapes_begun ex v p
shapes_stay ex v p col inner all =
    begun-more ex v p col
    ∙ same_set (λ shape. starts_with nat_eq shape (letters_of v (bar_before p))) (slot_of (length p))
    (letter_of (cell_in col v)) (voice_shapes ex v (bar_of (length p))) all
    ∙ sym (begun-within ex v p (eqb-false (slot_of (length p)) 0 inner))

-- no letters begin each shape, where there is one
some_begins : (slot l : ℕ) (shapes : List (List ℕ)) → allows shapes slot l ≡ true → begins_shape shapes [] ≡ true
some_begins slot l [] some = some
some_begins slot l (shape ∷ shapes) some = refl

module _ (ex : Exercise) (p : List (List Cell)) (col : List Cell) (orderly : IsOrderly ex p) where
  abbrev here : ℕ → List (List ℕ)
  here v = voice_shapes ex v (bar_of (length p))

  -- the letters of the column's bar before it begin a shape
  before : (v l : ℕ) → IsFree ex v → allows (here v) (slot_of (length p)) l ≡ true
      → begins_shape (here v) (letters_of v (bar_before p)) ≡ true
  before v l free some =
      elim (cases_Bool (begins_bar (length p))) [
        | inl e ↦
            ap (λ cols. begins_shape (here v) (letters_of v cols))
            (none_before p (eqb-true (slot_of (length p)) 0 e))
            ∙ some_begins (slot_of (length p)) l (here v) some
        | inr e ↦
            let within = eqb-false (slot_of (length p)) 0 e in
            let begun : HasBegun p (bar_of (length p)) = (omega arith, started (length p) within) in
            let same : bar_columns p (bar_of (length p)) ≡ bar_before p =
            ap (bar_columns p) (sym (newest_bar-within p within)) ∙ newest_columns-within p within in
            sym (ap (λ cols. begins_shape (here v) (letters_of v cols)) same)
            ∙ orderly v (bar_of (length p)) free begun
      ]
    where
      started : (n : ℕ) → (n % 8 ≡ 0 → ⊥) → 8 * (n / 8 + 1 - 1) < n
      started n h = omega arith

  module _ (alike : (v : ℕ) → IsFree ex v → are_alike (slot_of (length p)) (here v) ≡ true)
      (allowed : (v : ℕ) → IsFree ex v → allows (here v) (slot_of (length p)) (letter_of (cell_in col v)) ≡ true) where
    pub alike_orderly : IsOrderly ex (p ++ col ∷ [])
    alike_orderly =
        orderly-more ex p col orderly (λ v free.
        let l : ℕ = letter_of (cell_in col v) in
        let letters : List ℕ = letters_of v (bar_before p) in
        ap (begins_shape (here v))
        (ap (letters_of v) (bar_columns-newest p col) ∙ letters_of-append v (bar_before p) (col ∷ []))
        ∙ goes_on letters l (here v) (letter_is_some (cell_in col v))
        (ap (λ n. all_have n l (here v)) (length-letters v p)
        ∙ have_letter (slot_of (length p)) l (here v) (alike v free) (allowed v free))
        (before v l free (allowed v free)))

    pub alike_unbroken : (voices i : ℕ) → i < length (p ++ col ∷ []) → newly_breaks shape_rule ex voices p col i ≡ false
    alike_unbroken voices i there =
        and_right (newly (settled_by (enough_after 3 ex voices)) p col i)
        (reading_of (broken_in 3 ex voices) (p ++ col ∷ []) i)
        (orderly-unbroken ex (p ++ col ∷ []) alike_orderly voices i there)
