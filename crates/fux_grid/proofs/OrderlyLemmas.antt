-- Orderly lists, column by column.
use Rattle.std.proofs.Common.{◌≡◌, ℕ, ◌+◌, ◌-◌, ◌*◌, ◌/◌, ◌<◌, ◌≤◌, List, [], ◌∷◌, ◌++◌, length, take, drop, IsTrue, ap, sym, ◌∙◌, subst, inl, inr, arith}
use Rattle.std.proofs.lemmas.Bool.{cases_eq}
use Rattle.std.proofs.lemmas.List.{length-append, length-drop, take_all, drop-append-le, take-append-le}
use Rattle.fux_grid.specs.declared.cell.Cell.{Cell}
use Rattle.fux_grid.specs.declared.exercise.Exercise.{Exercise}
use Rattle.fux_grid.specs.Exercises.{IsFree, bar_of}
use Rattle.fux_grid.specs.Letters.{letters_of, bar_columns}
use Rattle.fux_grid.specs.Orderly.{voice_shapes, IsOrderly}
use Rattle.fux_grid.specs.Shapes.{begins_shape}
use Rattle.fux_grid.proofs.ShapeBeginnings.{begins_shape-fewer, letters_of-append, take-append}

-- a bar that is whole isn't changed by what comes after it
pub bar_columns-whole : (p t : List (List Cell)) (bar : ℕ) → 1 ≤ bar → 8 * bar ≤ length p → bar_columns (p ++ t) bar
    ≡ bar_columns p bar
bar_columns-whole p t bar h k =
    ap (take 8) (drop-append-le (8 * (bar - 1)) p t (omega arith))
    ∙ take-append-le 8 (drop (8 * (bar - 1)) p) t (omega (arith, length-drop (8 * (bar - 1)) p))

-- a part of a bar only gets longer
pub bar_columns-append : (p t : List (List Cell)) (bar : ℕ) → 8 * (bar - 1) ≤ length p → bar_columns (p ++ t) bar
    ≡ bar_columns p bar ++ take (8 - length (drop (8 * (bar - 1)) p)) t
bar_columns-append p t bar h =
    ap (take 8) (drop-append-le (8 * (bar - 1)) p t h) ∙ take-append 8 (drop (8 * (bar - 1)) p) t

-- the bar of one more column: what the list has of it, and the column
pub bar_columns-newest : (p : List (List Cell)) (col : List Cell) → bar_columns (p ++ col ∷ []) (bar_of (length p))
    ≡ drop (8 * (length p / 8)) p ++ col ∷ []
bar_columns-newest p col =
    let start : 8 * (length p / 8 + 1 - 1) ≡ 8 * (length p / 8) = omega arith in
    let short : length (drop (8 * (length p / 8)) p ++ col ∷ []) ≤ 8 = omega
    (arith, length-append (drop (8 * (length p / 8)) p) (col ∷ []), length-drop (8 * (length p / 8)) p) in
    ap (λ n. take 8 (drop n (p ++ col ∷ []))) start
    ∙ ap (take 8) (drop-append-le (8 * (length p / 8)) p (col ∷ []) (omega arith))
    ∙ take_all 8 (drop (8 * (length p / 8)) p ++ col ∷ []) short

-- what begins an orderly list is orderly
pub orderly-fewer : (ex : Exercise) (p t : List (List Cell)) → IsOrderly ex (p ++ t) → IsOrderly ex p
orderly-fewer ex p t orderly v bar free begun =
    let more : List (List Cell) = take (8 - length (drop (8 * (bar - 1)) p)) t in
    let longer : letters_of v (bar_columns (p ++ t) bar) ≡ letters_of v (bar_columns p bar) ++ letters_of v more =
    ap (letters_of v) (bar_columns-append p t bar (omega (arith, begun.1)))
    ∙ letters_of-append v (bar_columns p bar) more in
    begins_shape-fewer (voice_shapes ex v bar) (letters_of v (bar_columns p bar)) (letters_of v more)
    (sym (ap (begins_shape (voice_shapes ex v bar)) longer)
    ∙ orderly v bar free (begun.0, omega (arith, begun.1, length-append p t)))

-- a list stays orderly with one column more where its letters go on to shapes in the newest bar
pub orderly-more : (ex : Exercise) (p : List (List Cell)) (col : List Cell) → IsOrderly ex p
    → ((v : ℕ) → IsFree ex v → IsTrue (begins_shape (voice_shapes ex v (bar_of (length p)))
    (letters_of v (bar_columns (p ++ col ∷ []) (bar_of (length p)))))) → IsOrderly ex (p ++ col ∷ [])
orderly-more ex p col orderly newest v bar free begun =
    elim (cases_eq bar (bar_of (length p))) [
      | inl same ↦ let P : ℕ → Type 0 = λ b. IsTrue
          (begins_shape (voice_shapes ex v b) (letters_of v (bar_columns (p ++ col ∷ []) b))) in
          subst P (sym same) (newest v free)
      | inr other ↦
          ap (λ cols. begins_shape (voice_shapes ex v bar) (letters_of v cols))
          (bar_columns-whole p (col ∷ []) bar begun.0
          (earlier_bar bar (length p) begun.0 other (omega (arith, begun.1, length-append p (col ∷ [])))))
          ∙ orderly v bar free (
            begun.0,
            started bar (length p) begun.0
                (earlier_bar bar (length p) begun.0 other (omega (arith, begun.1, length-append p (col ∷ [])))),
          )
    ]
  where
    earlier_bar : (bar n : ℕ) → 1 ≤ bar → (bar ≡ n / 8 + 1 → ⊥) → 8 * (bar - 1) ≤ n → 8 * bar ≤ n
    earlier_bar bar n h k l = omega arith

    started : (bar n : ℕ) → 1 ≤ bar → 8 * bar ≤ n → 8 * (bar - 1) < n
    started bar n h k = omega arith
