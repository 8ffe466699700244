-- A voice that leaves its last shape with a column newly breaks S3 (`leaves_last`).
use Rattle.std.proofs.Common.{◌≡◌, ℕ, ◌+◌, ◌-◌, ◌*◌, ◌/◌, ◌%◌, ◌^◌, ◌<◌, ◌==◌, true, false, ◌&&◌, List, [], ◌∷◌, ◌++◌, length, refl, ap, sym, ◌∙◌, subst, inl, inr, arith}
use Rattle.std.specs.Prelude.{not, nat_lt}
use Rattle.std.proofs.lemmas.Bool.{and_from, and_right, both_ways, cases_Bool, eq-eqb, eqb-false, eqb-true, false_from_ne_true, ne_eqb}
use Rattle.std.proofs.lemmas.List.{length-append}
use Rattle.fux_grid.specs.declared.cell.Cell.{Cell}
use Rattle.fux_grid.specs.declared.exercise.Exercise.{Exercise}
use Rattle.fux_grid.specs.Cells.{cell_in}
use Rattle.fux_grid.specs.Exercises.{IsFree, slot_of}
use Rattle.rule_law.specs.Bars.{begins_bar}
use Rattle.rule_law.specs.Growth.{newly}
use Rattle.rule_law.specs.Law.{below_from_test, first_true}
use Rattle.rule_law.specs.Places.{reading_of, settled_by}
use Rattle.rule_law.specs.Rulebooks.{newly_breaks}
use Rattle.rule_law.specs.Voices.{is_free}
use Rattle.rhythm_cadence.specs.Book.{shape_rule}
use Rattle.rhythm_cadence.proofs.Locality.{rhythm_breaks, rhythm_settles, rhythm_reads_on}
use Rattle.rhythm_cadence.specs.Parts.{newest_bar, newest_start, shapes_after, shapes_begun}
use Rattle.rhythm_cadence.specs.Rows.{broken_in, enough_after}
use Rattle.rhythm_cadence.proofs.BarReadings.{break_is_settled}
use Rattle.rhythm_cadence.proofs.NewestBars.{newest_bar-more, newest_bar-within}
use Rattle.rhythm_cadence.proofs.PartLemmas.{none_left, set-more}

module _ (ex : Exercise) (p : List (List Cell)) (col : List Cell) (v possible : ℕ) (four : v < 4)
    (there : nat_lt v ex.voices ≡ true) (free : is_free ex v ≡ true)
    (same : IsFree ex v → 0 < length p → possible ≡ shapes_begun ex v p) where
  abbrev grown : List (List Cell)
  grown = p ++ col ∷ []

  abbrev start : ℕ
  start = newest_start grown

  some : 0 < length grown
  some = omega (arith, length-append p (col ∷ []))

  begun_at : start ≡ 8 * (length p / 8)
  begun_at = ap (λ bar. 8 * (bar - 1)) (newest_bar-more p col) ∙ simple (length p)
    where
      simple : (n : ℕ) → 8 * (n / 8 + 1 - 1) ≡ 8 * (n / 8)
      simple n = omega arith

  broken : shapes_after ex v (length p) possible (cell_in col v) ≡ 0 → rhythm_breaks 3 ex (2 ^ v) grown start ≡ true
  broken none =
      sym (none_left ex grown v (shapes_after ex v (length p) possible (cell_in col v)) four some
      (λ is. set-more ex p col v (length p) possible refl (same is)))
      ∙ and_from (nat_lt v ex.voices) (is_free ex v && (shapes_after ex v (length p) possible (cell_in col v) == 0))
      there
      (and_from (is_free ex v) (shapes_after ex v (length p) possible (cell_in col v) == 0) free (eq-eqb _ 0 none))

  -- before, S3 wasn't broken there
  unbroken : (begins_bar (length p) ≡ false → (possible ≡ 0 → ⊥)) → start < length p
      → rhythm_breaks 3 ex (2 ^ v) p start ≡ false
  unbroken some_left before =
      elim (cases_Bool (begins_bar (length p))) [
        | inl e ↦
            let slot : length p % 8 ≡ 0 = eqb-true (length p % 8) 0 e in
            absurd (omega (arith, begun_at, before, slot))
        | inr e ↦
            let P : ℕ → Type 0 = λ n. rhythm_breaks 3 ex (2 ^ v) p n ≡ false in
            let bar : newest_bar p ≡ newest_bar grown = newest_bar-within p (eqb-false (slot_of (length p)) 0 e)
            ∙ sym (newest_bar-more p col) in
            subst P (ap (λ n. 8 * (n - 1)) bar)
            (sym (none_left ex p v possible four (omega (arith, before)) (λ is. same is (omega (arith, before))))
            ∙ and_right (nat_lt v ex.voices) (is_free ex v && (possible == 0))
            (and_right (is_free ex v) (possible == 0) (ne_eqb possible 0 (some_left e))))
      ]

  pub leaves_last : (begins_bar (length p) ≡ false → (possible ≡ 0 → ⊥))
      → shapes_after ex v (length p) possible (cell_in col v) ≡ 0 → newly_breaks shape_rule ex (2 ^ v) p col start
      ≡ true
  leaves_last some_left none =
      let b = broken none in
      let placed : start < length grown = omega (arith, begun_at, length-append p (col ∷ [])) in
      let unsettled : rhythm_settles 3 ex (2 ^ v) p start ≡ false =
      false_from_ne_true (rhythm_settles 3 ex (2 ^ v) p start) (λ s.
      both_ways (rhythm_breaks 3 ex (2 ^ v) p start)
      (unbroken some_left (below_from_test start (length p)
      (first_true (nat_lt start (length p)) (reading_of (enough_after 3 ex (2 ^ v)) p start) s)))
      (sym (rhythm_reads_on 3 ex (2 ^ v) p (col ∷ []) start s) ∙ b)) in
      and_from (newly (settled_by (enough_after 3 ex (2 ^ v))) p col start)
      (reading_of (broken_in 3 ex (2 ^ v)) grown start)
      (and_from (rhythm_settles 3 ex (2 ^ v) grown start) (not (rhythm_settles 3 ex (2 ^ v) p start))
      (break_is_settled ex (2 ^ v) grown start placed b) (ap not unsettled)) b
