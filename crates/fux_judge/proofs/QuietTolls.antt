-- Behind an orderly prefix a quiet column settles none of the late tolls that it doesn't decide by
-- itself but Q16 (`pattern_alone`).
use Rattle.std.proofs.Common.{◌≡◌, ◌<◌, ◌≤◌, ◌+◌, ◌*◌, ◌&&◌, ℕ, Bool, true, false, if◌then◌else◌, List, [], ◌∷◌, ◌++◌, length, reverse, refl, ap, sym, ◌∙◌, arith}
use Rattle.std.specs.Prelude.{nat_le}
use Rattle.std.specs.List.{sum_by}
use Rattle.fux_grid.specs.declared.cell.Cell.{Cell}
use Rattle.fux_grid.specs.declared.exercise.Exercise.{Exercise}
use Rattle.fux_grid.specs.Exercises.{bar_of}
use Rattle.rule_law.specs.Growth.{newly}
use Rattle.rule_law.specs.Law.{reading-at_end}
use Rattle.rule_law.specs.Places.{reading_of}
use Rattle.rule_law.specs.Prefixes.{GoesOn}
use Rattle.rule_law.specs.Quiet.{is_quiet, quiet_slot}
use Rattle.motion_rules.specs.Runs.{ends_four_bars}
use Rattle.rhythm_cadence.specs.Inflections.{inflection_toll}
use Rattle.rhythm_cadence.proofs.Quiet.{none_inflected}
use Rattle.penalty_sheet.specs.declared.sheet.Sheet.{Sheet}
use Rattle.penalty_sheet.specs.Weights.{weight_of}
use Rattle.fux_judge.specs.Links.{is_toll_between, last_column, other_late_tolls}
use Rattle.fux_judge.specs.Penalties.{new_toll}
use Rattle.fux_judge.specs.Rules.{cost_at, costs, is_cost_settled, toll_at}
use Rattle.fux_judge.specs.Steps.{sum_among, toll_late}
use Rattle.fux_judge.proofs.LateLemmas.{other_late_are}
use Rattle.fux_judge.proofs.LinkLemmas.{has_toll_row}
use Rattle.fux_judge.proofs.LinkPaid.{orderly_prefix, read_near}
use Rattle.fux_judge.proofs.QuietLinks.{free}
use Rattle.fux_judge.proofs.StepPlaces.{zero_below}

nothing : (b : Bool) (n w : ℕ) → n ≡ 0 → (if b then n * w else 0) ≡ 0
nothing true n w e = ap (λ m. m * w) e ∙ none w
  where
    none : (w : ℕ) → 0 * w ≡ 0
    none w = omega arith
nothing false n w e = refl

module _ (ex : Exercise) (there : ex.cantus_voice < ex.voices) (sheet : Sheet) (p : List (List Cell)) (col : List Cell)
    (on : GoesOn ex p (col ∷ [])) (quiet : is_quiet (length p) col ≡ true) where
  -- a toll of neighbors costs nothing at the column
  free_here : (toll : ℕ) → is_toll_between toll ≡ true → new_toll ex sheet p col (length p) toll ≡ 0
  free_here toll between =
      let costless : cost_at toll ex (p ++ col ∷ []) (length p) ≡ 0 =
      sym (read_near ex p col (orderly_prefix ex there p col on) (costs toll ex) (has_toll_row toll between ex))
      ∙ free ex (length p) (last_column p) col quiet toll between in
      nothing (newly (is_cost_settled toll ex) p col (length p)) (cost_at toll ex (p ++ col ∷ []) (length p))
      (weight_of sheet toll) costless

  -- so it settles nothing of it, where the column itself is its only place
  none_of_own : (toll count : ℕ) → is_toll_between toll ≡ true → count ≤ 1
      → sum_among (length p) count (λ i. new_toll ex sheet p col i toll) ≡ 0
  none_of_own toll count between few =
      zero_below (λ k. new_toll ex sheet p col (length p + k) toll) count
      (λ k h. at_place k (omega (arith, h, few)))
    where
      at_place : (k : ℕ) → k ≡ 0 → new_toll ex sheet p col (length p + k) toll ≡ 0
      at_place k e =
          ap (λ n. new_toll ex sheet p col n toll) (same k e) ∙ free_here toll between
        where
          same : (k : ℕ) → k ≡ 0 → length p + k ≡ length p
          same k e = omega (arith, e)

  -- and nothing of a toll that has no place
  none_of_none : (toll count first : ℕ) → count ≡ 0
      → sum_among first count (λ i. new_toll ex sheet p col i toll) ≡ 0
  none_of_none toll count first e =
      zero_below (λ k. new_toll ex sheet p col (first + k) toll) count (λ k h. absurd (omega (arith, h, e)))

  at_most_one : (b : Bool) → (if b then 1 else 0) ≤ 1
  at_most_one true = omega arith
  at_most_one false = omega arith

  no_bar : (b : Bool) → b ≡ false → ◌≡◌ {A = ℕ} (if b then 1 else 0) 0
  no_bar b e = ap (λ t. if t then 1 else 0) e

  inner : toll_late ex sheet p col 12 ≡ 0
  unfolding toll_at
  inner = none_of_own 12 _ refl (at_most_one (nat_le 3 ex.voices))

  runs : toll_late ex sheet p col 14 ≡ 0
  unfolding toll_at
  runs = none_of_none 14 _ (length p)
      (no_bar (ends_four_bars (length p)) (ap (λ b. b && nat_le 4 (bar_of (length p))) (quiet_slot (length p) col quiet)))

  inflections : toll_late ex sheet p col 21 ≡ 0
  unfolding toll_at
  inflections =
      zero_below (λ k. new_toll ex sheet p col (length p + k) 21) 1
      (λ k h. ap (λ n. new_toll ex sheet p col n 21) (here k h) ∙ still)
    where
      here : (k : ℕ) → k < 1 → length p + k ≡ length p
      here k h = omega (arith, h)

      costless : reading_of (inflection_toll ex) (p ++ col ∷ []) (length p) ≡ 0
      costless = reading-at_end (inflection_toll ex) p col ∙ none_inflected ex (length p) (reverse p) col [] quiet

      still : new_toll ex sheet p col (length p) 21 ≡ 0
      still = nothing (newly (is_cost_settled 21 ex) p col (length p))
          (reading_of (inflection_toll ex) (p ++ col ∷ []) (length p)) (weight_of sheet 21) costless

  pub pattern_alone : toll_late ex sheet p col 16 ≡ sum_by (toll_late ex sheet p col) other_late_tolls
  pattern_alone =
      omega (arith, ap (sum_by (toll_late ex sheet p col)) other_late_are, inner, runs, inflections)
