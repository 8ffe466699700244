-- The newest bar of a list, and what one more column makes of it.
use Rattle.std.proofs.Common.{◌≡◌, ℕ, ◌+◌, ◌-◌, ◌*◌, ◌/◌, ◌%◌, ◌<◌, ◌≤◌, ◌==◌, Bool, true, false, ◌&&◌, List, [], ◌∷◌, ◌++◌, length, take, drop, bit_and, refl, ap, sym, ◌∙◌, arith}
use Rattle.std.specs.Prelude.{nat_eq, slice_index, if◌then◌else◌}
use Rattle.std.specs.List.{starts_with}
use Rattle.std.proofs.lemmas.Bool.{eqb-true, eqb-false}
use Rattle.std.proofs.lemmas.List.{length-append, length-drop, length-map, take_all, drop_all}
use Rattle.fux_grid.specs.declared.cell.Cell.{Cell}
use Rattle.fux_grid.specs.declared.cell.Cell.TheVariants.{Rest, Hold, Start}
use Rattle.fux_grid.specs.declared.exercise.Exercise.{Exercise}
use Rattle.fux_grid.specs.Cells.{cell_in}
use Rattle.fux_grid.specs.Exercises.{bar_of, slot_of}
use Rattle.fux_grid.specs.Letters.{letters_of, bar_columns}
use Rattle.fux_grid.specs.Orderly.{voice_shapes}
use Rattle.fux_grid.specs.Shapes.{letter_of}
use Rattle.fux_grid.proofs.OrderlyLemmas.{bar_columns-newest}
use Rattle.fux_grid.proofs.ShapeBeginnings.{letters_of-append}
use Rattle.rule_law.specs.Bars.{begins_bar}
use Rattle.rhythm_cadence.specs.Parts.{shape_set, shapes_with, newest_bar, newest_columns, shapes_begun, shapes_after}
use Rattle.rhythm_cadence.proofs.ShapeSets.{starts_with-more, shape_set-same, bit_and-shape_set}

pub letter_is_some : (c : Cell) → 0 < letter_of c
letter_is_some Rest = omega arith
letter_is_some (Hold p) = omega arith
letter_is_some (Start p) = omega arith

-- the columns of the bar of column i that stand before it
abbrev pub bar_before : List (List Cell) → List (List Cell)
bar_before p = drop (8 * (length p / 8)) p

length-bar_before : (p : List (List Cell)) → length (bar_before p) ≡ length p % 8
length-bar_before p = omega (arith, length-drop (8 * (length p / 8)) p)

-- with one more column the newest bar is that column's
pub newest_bar-more : (p : List (List Cell)) (col : List Cell) → newest_bar (p ++ col ∷ []) ≡ bar_of (length p)
newest_bar-more p col =
    let e : length (p ++ col ∷ []) - 1 ≡ length p = omega (arith, length-append p (col ∷ [])) in ap bar_of e

newest_columns-more : (p : List (List Cell)) (col : List Cell) → newest_columns (p ++ col ∷ []) ≡ bar_before p ++ col
    ∷ []
newest_columns-more p col = ap (bar_columns (p ++ col ∷ [])) (newest_bar-more p col) ∙ bar_columns-newest p col

-- within a bar the newest bar is the one that goes on
pub newest_bar-within : (p : List (List Cell)) → (slot_of (length p) ≡ 0 → ⊥) → newest_bar p ≡ bar_of (length p)
newest_bar-within p h = within (length p) h
  where
    within : (n : ℕ) → (n % 8 ≡ 0 → ⊥) → (n - 1) / 8 + 1 ≡ n / 8 + 1
    within n h = omega arith

pub newest_columns-within : (p : List (List Cell)) → (slot_of (length p) ≡ 0 → ⊥) → newest_columns p ≡ bar_before p
newest_columns-within p h =
    let start : 8 * (length p / 8 + 1 - 1) ≡ 8 * (length p / 8) = omega arith in
    ap (bar_columns p) (newest_bar-within p h)
    ∙ ap (λ n. take 8 (drop n p)) start
    ∙ take_all 8 (bar_before p) (omega (arith, length-bar_before p))

-- the letters of the newest bar with one more
letters-more : (v : ℕ) (p : List (List Cell)) (col : List Cell) → letters_of v (newest_columns (p ++ col ∷ []))
    ≡ letters_of v (bar_before p) ++ letter_of (cell_in col v) ∷ []
letters-more v p col = ap (letters_of v) (newest_columns-more p col) ∙ letters_of-append v (bar_before p) (col ∷ [])

pub length-letters : (v : ℕ) (p : List (List Cell)) → length (letters_of v (bar_before p)) ≡ slot_of (length p)
length-letters v p = length-map (bar_before p) (λ col. letter_of (cell_in col v)) ∙ length-bar_before p

-- a shape goes on with the letter where it begins with those before it and has the letter at the
-- slot
goes_on : (v : ℕ) (p : List (List Cell)) (col : List Cell) (shape : List ℕ)
    → starts_with nat_eq shape (letters_of v (newest_columns (p ++ col ∷ [])))
    ≡ (starts_with nat_eq shape (letters_of v (bar_before p))
    && (slice_index shape (slot_of (length p)) == letter_of (cell_in col v)))
goes_on v p col shape =
    ap (starts_with nat_eq shape) (letters-more v p col)
    ∙ starts_with-more shape (letters_of v (bar_before p)) (letter_of (cell_in col v)) (letter_is_some (cell_in col v))
    ∙ ap (λ n. starts_with nat_eq shape (letters_of v (bar_before p))
    && (slice_index shape n == letter_of (cell_in col v))) (length-letters v p)

pub begun-more : (ex : Exercise) (v : ℕ) (p : List (List Cell)) (col : List Cell) → shapes_begun ex v (p ++ col ∷ [])
    ≡ shape_set (λ shape. starts_with nat_eq shape (letters_of v (bar_before p))
    && (slice_index shape (slot_of (length p)) == letter_of (cell_in col v))) (voice_shapes ex v (bar_of (length p)))
begun-more ex v p col =
    ap (λ bar. shape_set (λ shape. starts_with nat_eq shape (letters_of v (newest_columns (p ++ col ∷ []))))
    (voice_shapes ex v bar)) (newest_bar-more p col)
    ∙ shape_set-same (λ shape. starts_with nat_eq shape (letters_of v (newest_columns (p ++ col ∷ []))))
    (λ shape. starts_with nat_eq shape (letters_of v (bar_before p))
    && (slice_index shape (slot_of (length p)) == letter_of (cell_in col v)))
    (voice_shapes ex v (bar_of (length p))) (goes_on v p col)

-- a bar that begins has no letters before
pub none_before : (p : List (List Cell)) → slot_of (length p) ≡ 0 → bar_before p ≡ []
none_before p h = drop_all (8 * (length p / 8)) p (whole (length p) h)
  where
    whole : (n : ℕ) → n % 8 ≡ 0 → n ≤ 8 * (n / 8)
    whole n h = omega arith

pub begun-within : (ex : Exercise) (v : ℕ) (p : List (List Cell)) → (slot_of (length p) ≡ 0 → ⊥) → shapes_begun ex v p
    ≡ shape_set (λ shape. starts_with nat_eq shape (letters_of v (bar_before p)))
    (voice_shapes ex v (bar_of (length p)))
begun-within ex v p h =
    ap (λ cols. shape_set (λ shape. starts_with nat_eq shape (letters_of v cols)) (voice_shapes ex v (newest_bar p)))
    (newest_columns-within p h)
    ∙ ap (λ bar. shape_set (λ shape. starts_with nat_eq shape (letters_of v (bar_before p))) (voice_shapes ex v bar))
    (newest_bar-within p h)

by_bar : (b : Bool) (x y z : ℕ) → (b ≡ true → x ≡ y) → (b ≡ false → x ≡ z) → x ≡ (if b then y else z)
by_bar true x y z f g = f refl
by_bar false x y z f g = g refl

-- the shapes that the newest bar begins, with one more column
pub shapes_begun-more : (ex : Exercise) (v : ℕ) (p : List (List Cell)) (col : List Cell)
    → shapes_begun ex v (p ++ col ∷ []) ≡ shapes_after ex v (length p) (shapes_begun ex v p) (cell_in col v)
shapes_begun-more ex v p col =
    begun-more ex v p col
    ∙ by_bar (begins_bar (length p)) _ _ _
    (λ e. ap (λ cols. shape_set (λ shape. starts_with nat_eq shape (letters_of v cols)
    && (slice_index shape (slot_of (length p)) == letter_of (cell_in col v)))
    (voice_shapes ex v (bar_of (length p))))
    (none_before p (eqb-true (slot_of (length p)) 0 e)))
    (λ e. sym (bit_and-shape_set (λ shape. starts_with nat_eq shape (letters_of v (bar_before p)))
    (λ shape. slice_index shape (slot_of (length p)) == letter_of (cell_in col v))
    (voice_shapes ex v (bar_of (length p))))
    ∙ ap (λ n. bit_and n (shapes_with (slot_of (length p)) (letter_of (cell_in col v))
    (voice_shapes ex v (bar_of (length p))))) (sym (begun-within ex v p (eqb-false (slot_of (length p)) 0 e))))
