-- A column settles no break of S25 where each free voice holds a note in it, or started none in the
-- column before and columns are to come (`quavers_unbroken`).
use Rattle.std.proofs.Common.{◌≡◌, ℕ, ◌+◌, ◌-◌, ◌<◌, Bool, true, false, ◌&&◌, List, [], ◌∷◌, ◌++◌, drop, length, refl, ap, ◌∙◌, inl, inr, arith}
use Rattle.std.specs.Prelude.{◌⊎◌, not, slice_index_or}
use Rattle.std.proofs.Math.ListN.{get_or-append}
use Rattle.std.proofs.Math.Seq.{drop-append_seam, get_or-append_seam}
use Rattle.std.proofs.lemmas.Bool.{cases_lt}
use Rattle.std.proofs.lemmas.Bool.Decides.{nat_tests}
use Rattle.fux_grid.specs.declared.cell.Cell.{Cell}
use Rattle.fux_grid.specs.declared.cell.Cell.TheVariants.{Rest, Hold, Start}
use Rattle.fux_grid.specs.declared.exercise.Exercise.{Exercise}
use Rattle.fux_grid.specs.Cells.{cell_in, is_hold}
use Rattle.fux_grid.specs.Columns.{earlier, newest_column}
use Rattle.fux_grid.specs.Exercises.{IsFree, columns_in}
use Rattle.rule_law.specs.Prefixes.{GoesOn}
use Rattle.rule_law.specs.Quiet.{on_free_voice-none}
use Rattle.rule_law.specs.Rulebooks.{IsAmong, newly_breaks}
use Rattle.rule_law.specs.Terms.{starts}
use Rattle.rule_law.specs.Voices.{voice_of}
use Rattle.rhythm_cadence.specs.Book.{quaver_rule, quavers_settled}
use Rattle.rhythm_cadence.specs.Quavers.{is_bad_quaver, is_stepwise}
use Rattle.rhythm_cadence.proofs.BookLaws.{quaver_newly-among, quavers_bounds}
use Rattle.rhythm_cadence.proofs.LateLaws.{same_on_voice}

hold_starts_none : (c : Cell) → is_hold c ≡ true → starts c ≡ false
hold_starts_none Rest h = refl
hold_starts_none (Hold p) h = refl
hold_starts_none (Start p) h = cc

-- where columns are to come, the only place is that of the column before
place_before : (columns n i : ℕ) → n + 1 < columns → IsAmong (n - 1) (quavers_settled columns n) i → i < n
place_before columns n i more among = grind (arith, nat_tests, more, among.to)

module _ (ex : Exercise) (p : List (List Cell)) (col : List Cell) (i : ℕ)
    (among : IsAmong (length p - 1) (quavers_settled (columns_in ex) (length p)) i) where
  abbrev grown : List (List Cell)
  grown = p ++ col ∷ []

  abbrev now : List Cell
  now = slice_index_or grown i []

  abbrev ahead : List (List Cell)
  ahead = drop (i + 1) grown

  abbrev is_bad : ℕ → Bool
  is_bad = is_bad_quaver i (earlier grown i) now ahead

  -- a voice of which no note starts at the place breaks nothing there
  no_start : (v : ℕ) → starts (cell_in now v) ≡ false → is_bad v ≡ false
  no_start v e =
      ap (λ b. (b && not (is_hold (cell_in (newest_column ahead) v)))
      && not (is_stepwise i (earlier grown i) now ahead v)) e

  -- nor does one whose note is held behind it
  held_on : (v : ℕ) → is_hold (cell_in (newest_column ahead) v) ≡ true → is_bad v ≡ false
  held_on v e =
      ap (λ b. (starts (cell_in now v) && not b) && not (is_stepwise i (earlier grown i) now ahead v)) e
      ∙ none (starts (cell_in now v)) (not (is_stepwise i (earlier grown i) now ahead v))
    where
      none : (s x : Bool) → ((s && false) && x) ≡ false
      none true x = refl
      none false x = refl

  holds : (v : ℕ) → is_hold (cell_in col v) ≡ true → is_bad v ≡ false
  holds v held =
      let bounds = quavers_bounds (columns_in ex) (length p) i among in
      elim (cases_lt i (length p)) [
        | inl earlier_place ↦
            let next : i + 1 ≡ length p = omega (arith, earlier_place, bounds.1) in
            held_on v
            (ap (λ cols. is_hold (cell_in (newest_column cols) v))
            (ap (λ n. drop n grown) next ∙ drop-append_seam p (col ∷ []))
            ∙ held)
        | inr own_place ↦
            let own : i ≡ length p = omega (arith, own_place, bounds.0) in
            no_start v
            (ap (λ c. starts (cell_in c v))
            (ap (λ n. slice_index_or grown n []) own ∙ get_or-append_seam p col [] [])
            ∙ hold_starts_none (cell_in col v) held)
      ]

  started_none : (v : ℕ) → length p + 1 < columns_in ex
      → starts (cell_in (slice_index_or p (length p - 1) []) v) ≡ false → is_bad v ≡ false
  started_none v more none =
      let less : i < length p = place_before (columns_in ex) (length p) i more among in
      let bounds = quavers_bounds (columns_in ex) (length p) i among in
      let place : i ≡ length p - 1 = omega (arith, less, bounds.1) in
      no_start v
      (ap (λ c. starts (cell_in c v))
      (get_or-append p (col ∷ []) [] i less ∙ ap (λ n. slice_index_or p n []) place)
      ∙ none)

  pub quavers_unbroken : GoesOn ex p (col ∷ [])
      → ((v : ℕ) → IsFree ex v → (is_hold (cell_in col v) ≡ true)
      ⊎ ((length p + 1 < columns_in ex) × (starts (cell_in (slice_index_or p (length p - 1) []) v) ≡ false)))
      → (voices : ℕ) → newly_breaks quaver_rule ex voices p col i ≡ false
  quavers_unbroken on each voices =
      quaver_newly-among ex voices p col i on among
      ∙ same_on_voice ex is_bad (λ v. false) (voice_of voices)
      (λ v free. elim (each v free) [ inl held ↦ holds v held | inr none ↦ started_none v none.0 none.1 ])
      ∙ on_free_voice-none ex (λ v. false) voices (λ v. refl)
