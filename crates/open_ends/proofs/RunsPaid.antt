-- After an orderly prefix a column that settles no strict break makes a link with the one before
-- it, and settles no less than what the link costs and what Q14 counts at the column, by its weight
-- (`link_and_runs_are_paid`).
use Rattle.std.specs.Prelude.{◌≡◌, ℕ, ◌+◌, ◌-◌, ◌*◌, ◌<◌, ◌≤◌, ◌≢◌, ◌==◌, Bool, true, false, List, [], ◌∷◌, ◌++◌, Some, None, IsSomeAnd, length, slice_set, if◌then◌else◌, refl}
use Rattle.std.specs.List.{list_any, sum_by}
use Rattle.std.proofs.Common.{ap, sym, ◌∙◌, inl, inr, subst, add-one, arith}
use Rattle.std.proofs.lemmas.Bool.{cases_lt, eqb-false, eqb-true}
use Rattle.std.proofs.lemmas.List.{get_or-set_other, get_or-set_same, get_or_past, length-set}
use Rattle.fux_grid.specs.declared.cell.Cell.{Cell}
use Rattle.fux_grid.specs.declared.exercise.Exercise.{Exercise}
use Rattle.fux_grid.specs.Columns.{Columns}
use Rattle.rule_law.specs.Growth.{newly, sum_below, sum_below-plus, sum_below-same, sum_by-plus, sum_by-same}
use Rattle.rule_law.specs.Prefixes.{GoesOn}
use Rattle.penalty_sheet.specs.declared.sheet.Sheet.{Sheet}
use Rattle.penalty_sheet.specs.Weights.{weight_of}
use Rattle.fux_judge.specs.Links.{breaks_strictly, cost_between, last_column, link_of}
use Rattle.fux_judge.specs.Penalties.{new_prices, new_toll, new_tolls, newly_broken, newly_paid}
use Rattle.fux_judge.specs.Rules.{cost_at, cost_enough, is_cost_settled, rules_read, toll_at, tolls_read}
use Rattle.fux_judge.proofs.ChargeLemmas.{reached}
use Rattle.fux_judge.proofs.LinkPaid.{link_is_paid}
use Rattle.fux_judge.proofs.StepPlaces.{newly_at_end}
use Rattle.open_ends.specs.Runs.{run_toll}

-- ---- the same sheet without Q14

abbrev without_runs : Sheet → Sheet
without_runs sheet = record { weights = slice_set sheet.weights 13 0 }

weight-runs : (sheet : Sheet) → weight_of (without_runs sheet) run_toll ≡ 0
weight-runs sheet =
    elim (cases_lt 13 (length sheet.weights)) [
      | inl within ↦ get_or-set_same sheet.weights 13 0 0 within
      | inr past ↦
          get_or_past (slice_set sheet.weights 13 0) 13 0 (omega (arith, past, length-set sheet.weights 13 0))
    ]

weight-other : (sheet : Sheet) (toll : ℕ) → (toll == run_toll) ≡ false
    → weight_of (without_runs sheet) toll ≡ weight_of sheet toll
weight-other sheet toll e =
    let other : toll ≢ 14 = eqb-false toll run_toll e in
    get_or-set_other sheet.weights 13 (toll - 1) 0 0 (λ h. other (omega (arith, h)))

-- Q14 is one of the tolls that are read, once
counted_once : (n : ℕ) → sum_by (λ toll. if toll == run_toll then n else 0) tolls_read ≡ n
unfolding tolls_read
counted_once n = omega arith

module _ (ex : Exercise) (sheet : Sheet) (p : Columns) (col : List Cell) where
  -- it isn't a toll of neighbors
  link_of-without : link_of ex (without_runs sheet) (length p) (last_column p) col
      ≡ link_of ex sheet (length p) (last_column p) col
  unfolding link_of toll_at
  link_of-without =
      ap (λ cost. if list_any (breaks_strictly ex (length p) (last_column p) col) rules_read then None else Some cost)
      (sum_by-same _ _ tolls_read (λ toll. at toll (toll == run_toll) refl))
    where
      at : (toll : ℕ) (b : Bool) → (toll == run_toll) ≡ b
          → cost_between ex (length p) (last_column p) col toll * weight_of (without_runs sheet) toll
          ≡ cost_between ex (length p) (last_column p) col toll * weight_of sheet toll
      at toll true e =
          let nothing : cost_between ex (length p) (last_column p) col toll ≡ 0 =
          ap (cost_between ex (length p) (last_column p) col) (eqb-true toll run_toll e) in
          rw nothing (omega arith)
      at toll false e =
          ap (λ n. cost_between ex (length p) (last_column p) col toll * n) (weight-other sheet toll e)

  -- what the column settles of Q14 at a place
  abbrev new_runs : ℕ → ℕ
  new_runs i = new_toll ex sheet p col i run_toll

  new_toll-without : (i toll : ℕ) → new_toll ex sheet p col i toll
      ≡ new_toll ex (without_runs sheet) p col i toll + (if toll == run_toll then new_runs i else 0)
  new_toll-without i toll = at (toll == run_toll) refl
    where
      nothing : (b : Bool) (n w : ℕ) → w ≡ 0 → (if b then n * w else 0) ≡ 0
      nothing true n w e = rw e (omega arith)
      nothing false n w e = refl

      at : (b : Bool) → (toll == run_toll) ≡ b → new_toll ex sheet p col i toll
          ≡ new_toll ex (without_runs sheet) p col i toll + (if b then new_runs i else 0)
      at true e =
          let same : toll ≡ run_toll = eqb-true toll run_toll e in
          let none : new_toll ex (without_runs sheet) p col i run_toll ≡ 0 =
          nothing (newly (is_cost_settled run_toll ex) p col i) (cost_at run_toll ex (p ++ col ∷ []) i)
          (weight_of (without_runs sheet) run_toll) (weight-runs sheet) in
          rw same (rw none (omega arith))
      at false e =
          ap (λ w. if newly (is_cost_settled toll ex) p col i then cost_at toll ex (p ++ col ∷ []) i * w else 0)
          (sym (weight-other sheet toll e))
          ∙ omega arith

  new_tolls-without : (i : ℕ)
      → new_tolls ex sheet p col i ≡ new_tolls ex (without_runs sheet) p col i + new_runs i
  new_tolls-without i =
      sum_by-same _ _ tolls_read (new_toll-without i)
      ∙ sum_by-plus (new_toll ex (without_runs sheet) p col i) (λ toll. if toll == run_toll then new_runs i else 0)
      tolls_read
      ∙ ap (λ n. new_tolls ex (without_runs sheet) p col i + n) (counted_once (new_runs i))

  newly_paid-without : newly_paid ex sheet p col
      ≡ newly_paid ex (without_runs sheet) p col + sum_below new_runs (length p + 1)
  newly_paid-without =
      sum_below-same _ _ (length p + 1) (λ i h. parted i (new_tolls-without i))
      ∙ sum_below-plus (λ i. new_tolls ex (without_runs sheet) p col i + new_prices ex p col i) new_runs (length p + 1)
    where
      parted : (i : ℕ) → new_tolls ex sheet p col i ≡ new_tolls ex (without_runs sheet) p col i + new_runs i
          → new_tolls ex sheet p col i + new_prices ex p col i
          ≡ new_tolls ex (without_runs sheet) p col i + new_prices ex p col i + new_runs i
      parted i e = omega (arith, e)

  -- at its own place it settles what Q14 counts there
  runs_settled : new_runs (length p) ≡ cost_at run_toll ex (p ++ col ∷ []) (length p) * weight_of sheet run_toll
  unfolding toll_at
  runs_settled =
      ap (λ b. if b then cost_at run_toll ex (p ++ col ∷ []) (length p) * weight_of sheet run_toll else 0)
      (newly_at_end (cost_enough run_toll ex) (λ i behind now ahead. refl) p col)

  runs_within : cost_at run_toll ex (p ++ col ∷ []) (length p) * weight_of sheet run_toll
      ≤ sum_below new_runs (length p + 1)
  runs_within =
      let last : sum_below new_runs (length p + 1) ≡ sum_below new_runs (length p) + new_runs (length p) =
      ap (sum_below new_runs) (add-one (length p)) in
      omega (arith, last, runs_settled)

  pub link_and_runs_are_paid : ex.cantus_voice < ex.voices → GoesOn ex p (col ∷ [])
      → list_any (newly_broken ex p col) rules_read ≡ false
      → IsSomeAnd (link_of ex sheet (length p) (last_column p) col) (λ cost.
      cost + cost_at run_toll ex (p ++ col ∷ []) (length p) * weight_of sheet run_toll ≤ newly_paid ex sheet p col)
  link_and_runs_are_paid there on none =
      let Q : ℕ → Type 0 = λ cost. cost + cost_at run_toll ex (p ++ col ∷ []) (length p) * weight_of sheet run_toll
      ≤ newly_paid ex sheet p col in
      subst (λ link. IsSomeAnd link Q) link_of-without
      (reached (link_of ex (without_runs sheet) (length p) (last_column p) col)
      (λ cost h. omega (arith, h, newly_paid-without, runs_within))
      (link_is_paid ex there (without_runs sheet) p col on none))
