-- The least of S3 to S9 that a column breaks is the least that some voice of it breaks by its cell
-- (`found_together`).
use Rattle.std.proofs.Common.{◌≡◌, ℕ, ◌+◌, ◌*◌, ◌/◌, ◌==◌, ◌&&◌, ◌||◌, Bool, true, false, List, [], ◌∷◌, length, refl, ap, sym, ◌∙◌, arith}
use Rattle.std.specs.Prelude.{Some, if◌then◌else◌}
use Rattle.std.specs.List.{find, list_all, list_any}
use Rattle.std.proofs.lemmas.Bool.{and_from, eqb-true}
use Rattle.fux_grid.specs.declared.cell.Cell.{Cell}
use Rattle.fux_grid.specs.declared.exercise.Exercise.{Exercise}
use Rattle.fux_grid.specs.Cells.{cell_in}
use Rattle.rhythm_cadence.specs.Parts.{shapes_after, shapes_begun}
use Rattle.rhythm_cadence.specs.Told.{leaves_by_cell}
use Rattle.rhythm_cadence.proofs.CellShapes.{newly_by_cells}
use Rattle.rule_law.specs.declared.table.Form.TheVariants.{OneVoice}
use Rattle.rule_law.specs.Forms as forms
use Rattle.rule_law.specs.Forms.{sets_of, voice_form}
use Rattle.rule_law.specs.Growth.{any_below, list_any-same}
use Rattle.rule_law.specs.Prefixes.{GoesOn}
use Rattle.rule_law.specs.Rulebooks.{IsAmong}
use Rattle.rule_law.specs.Voices.{is_free, on_free_voice}
use Rattle.fux_judge.specs.Penalties.{is_strict_at, newly_broken, newly_broken_at}
use Rattle.fux_judge.specs.Rules.{is_late, is_read, rule_at, rules_read}
use Rattle.fux_judge.specs.Told.{breaks_by_cell, breaks_line, is_of_line, is_of_voice, least_by_cell, voice_rules}
use Rattle.fux_judge.proofs.LineBreaks.{lines_together}
use Rattle.fux_judge.proofs.PruningLemmas.{one_of, some_of}
use Rattle.fux_judge.proofs.StepPlaces.{newly_broken-late}
use Rattle.fux_judge.proofs.ToldLemmas.{find_where, found_passes}

with_true : (b : Bool) → (b && true) ≡ b
with_true true = refl
with_true false = refl

any_of_one : (test : ℕ → Bool) → any_below test 1 ≡ test 0
any_of_one test = refl

-- S3 has one place, the beginning of the column's bar
third_among : (n place : ℕ) → place ≡ 8 * (n / 8) → IsAmong (8 * (n / 8)) 1 place
third_among n place e = record { from = omega (arith, e); to = omega (arith, e) }

third_is_late : is_late 3 ≡ true
unfolding rule_at
third_is_late = refl

voices_read : list_all is_read voice_rules ≡ true
unfolding rules_read
voices_read = refl

module _ (ex : Exercise) (p : List (List Cell)) (col : List Cell) (on : GoesOn ex p (col ∷ [])) where
  abbrev place : ℕ
  place = 8 * (length p / 8)

  abbrev left : ℕ → Bool
  left v = shapes_after ex v (length p) (shapes_begun ex v p) (cell_in col v) == 0

  third_at : (voices : ℕ) → newly_broken_at 3 ex voices p col place
      ≡ (on_free_voice ex left voices && is_strict_at 3 ex voices place)
  unfolding rule_at
  third_at voices =
      ap (λ b. b && is_strict_at 3 ex voices place)
      (newly_by_cells ex p col voices place on (third_among (length p) place refl))

  -- so S3 is broken just where some voice has no shape left: it is never relaxed
  shapes_together : newly_broken ex p col 3
      ≡ list_any (λ v. leaves_by_cell ex v p (cell_in col v)) (0 ∷ 1 ∷ 2 ∷ 3 ∷ [])
  unfolding rule_at forms.all_sets
  shapes_together =
      let test : ℕ → Bool = λ i. list_any (λ voices. newly_broken_at 3 ex voices p col i) (sets_of OneVoice ex.voices) in
      let first : place + 0 ≡ place = omega arith in
      newly_broken-late ex p col 3 third_is_late on
      ∙ any_of_one (λ k. test (place + k))
      ∙ ap test first
      ∙ list_any-same (λ voices. newly_broken_at 3 ex voices p col place)
      (λ voices. on_free_voice ex left voices && is_strict_at 3 ex voices place) (sets_of OneVoice ex.voices) third_at
      ∙ sym ((voice_form ex (λ v. is_free ex v && left v)).any (λ voices. is_strict_at 3 ex voices place))
      ∙ list_any-same (λ v. leaves_by_cell ex v p (cell_in col v) && true)
      (λ v. leaves_by_cell ex v p (cell_in col v)) (0 ∷ 1 ∷ 2 ∷ 3 ∷ [])
      (λ v. with_true (leaves_by_cell ex v p (cell_in col v)))

  -- a rule of one voice is broken where some voice breaks it
  voices_together : (rule : ℕ) → is_of_voice rule ≡ true
      → list_any (λ v. breaks_by_cell ex p v (cell_in col v) rule) (0 ∷ 1 ∷ 2 ∷ 3 ∷ []) ≡ newly_broken ex p col rule
  voices_together rule h = at (rule == 3) refl
    where
      at : (t : Bool) → (rule == 3) ≡ t
          → list_any (λ v. if t then leaves_by_cell ex v p (cell_in col v) else breaks_line ex p v (cell_in col v) rule)
          (0 ∷ 1 ∷ 2 ∷ 3 ∷ []) ≡ newly_broken ex p col rule
      at true e = sym (ap (newly_broken ex p col) (eqb-true rule 3 e) ∙ shapes_together)
      at false e =
          let of_line : is_of_line rule ≡ true = sym (ap (λ b. b || is_of_line rule) e) ∙ h in
          sym (lines_together ex p col rule of_line)

  -- so the least of them is found voice by voice
  pub found_together : find (λ r. list_any (λ v. breaks_by_cell ex p v (cell_in col v) r) (0 ∷ 1 ∷ 2 ∷ 3 ∷ [])) voice_rules
      ≡ find (newly_broken ex p col) voice_rules
  found_together =
      find_where is_of_voice (λ r. list_any (λ v. breaks_by_cell ex p v (cell_in col v) r) (0 ∷ 1 ∷ 2 ∷ 3 ∷ []))
      (newly_broken ex p col) voice_rules refl voices_together

  -- what is found is what the column breaks
  pub told_newly : (rule : ℕ) → find (newly_broken ex p col) voice_rules ≡ Some rule
      → (is_read rule && newly_broken ex p col rule) ≡ true
  told_newly rule e =
      let found = found_passes (newly_broken ex p col) voice_rules rule e in
      and_from (is_read rule) (newly_broken ex p col rule) (one_of is_read rule voice_rules voices_read found.0) found.1

  -- and so is what is found of one voice
  pub voice_newly : (rule v : ℕ) → list_any (λ y. v == y) (0 ∷ 1 ∷ 2 ∷ 3 ∷ []) ≡ true
      → least_by_cell ex p v (cell_in col v) ≡ Some rule → (is_read rule && newly_broken ex p col rule) ≡ true
  voice_newly rule v four e =
      let found = found_passes (breaks_by_cell ex p v (cell_in col v)) voice_rules rule e in
      and_from (is_read rule) (newly_broken ex p col rule) (one_of is_read rule voice_rules voices_read found.0)
      (sym (voices_together rule found.0)
      ∙ some_of (λ w. breaks_by_cell ex p w (cell_in col w) rule) v (0 ∷ 1 ∷ 2 ∷ 3 ∷ []) four found.1)
