-- What the newest column settles of the late tolls, which are settled at once, at its own column.
use Rattle.std.specs.Prelude.{◌≡◌, ℕ, ◌==◌, Bool, true, false, ◌||◌, List, [], ◌∷◌, ◌++◌, length, nat_le, slice_index_or, if◌then◌else◌, refl}
use Rattle.std.proofs.lemmas.Bool.{ne_eqb}
use Rattle.fux_grid.specs.declared.cell.Cell.{Cell}
use Rattle.fux_grid.specs.declared.exercise.Exercise.{Exercise}
use Rattle.fux_grid.specs.Columns.{earlier, newest_column}
use Rattle.rule_law.proofs.AtOnce.{among_own, newly_costs-there}
use Rattle.rule_law.specs.Places.{reading_back}
use Rattle.rule_law.specs.Rulebooks.{IsAmong, TollRow, newly_costs}
use Rattle.motion_rules.specs.Book.{at_once_toll, inner_row, run_row, toll_row}
use Rattle.motion_rules.specs.InnerVoices.{inner_moves}
use Rattle.motion_rules.specs.Runs.{ends_four_bars, imperfect_runs}

-- what Q12 costs at a place of a list
abbrev inner_cost : Exercise → List (List Cell) → ℕ → ℕ
inner_cost ex s i = inner_moves ex (newest_column (earlier s i)) (slice_index_or s i [])

-- the late toll that isn't Q12 is Q14
pub run_row_of : (toll : ℕ) → (toll_row toll).late ≡ true → (toll ≡ 12 → ⊥) → toll_row toll ≡ run_row
run_row_of toll late other = at (toll == 12) (toll == 14) (ne_eqb toll 12 other) late
  where
    row : Bool → Bool → TollRow
    row inner run = if inner || run then (if inner then inner_row else run_row) else at_once_toll toll

    at : (inner run : Bool) → inner ≡ false → (row inner run).late ≡ true → row inner run ≡ run_row
    at true run e h = cc
    at false true e h = refl
    at false false e h = cc

-- at a place that the newest column may settle: it is the newest column, and what is newly settled
-- there is the toll
module _ (ex : Exercise) (p : List (List Cell)) (col : List Cell) (place : ℕ) where
  pub newly_inner : IsAmong (inner_row.first ex (length p)) (inner_row.count ex (length p)) place
      → (place ≡ length p) × (newly_costs inner_row ex p col place ≡ inner_cost ex (p ++ col ∷ []) place)
  newly_inner among =
      let own : place ≡ length p = among_own (nat_le 3 ex.voices) place (length p) among in
      (own, newly_costs-there inner_row ex (λ i behind now ahead. refl) p col place own)

  pub newly_run : IsAmong (run_row.first ex (length p)) (run_row.count ex (length p)) place
      → (place ≡ length p)
      × (newly_costs run_row ex p col place ≡ reading_back imperfect_runs (p ++ col ∷ []) place)
  newly_run among =
      let own : place ≡ length p = among_own (ends_four_bars (length p)) place (length p) among in
      (own, newly_costs-there run_row ex (λ i behind now ahead. refl) p col place own)
