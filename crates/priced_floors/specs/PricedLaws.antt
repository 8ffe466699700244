-- What is kept and charged prices the settings of an exercise (`settings_are_priced`).
use Rattle.std.specs.Prelude.{◌≡◌, ℕ, suc, ◌+◌, ◌<◌, Bool, true, false, ◌||◌, List, [], ◌∷◌, ◌++◌, Some, None, length, slice_index_or, if◌then◌else◌, refl}
use Rattle.std.specs.List.{list_all, list_any, sum_by}
use Rattle.std.proofs.Common.{⊎_elim, ap, ap₂, sym, ◌∙◌, subst, arith, add-one}
use Rattle.std.proofs.Math.Nat.{mul-add, mul-le-mul_left}
use Rattle.std.proofs.lemmas.Bool.{and_parts}
use Rattle.std.proofs.lemmas.List.Sums.{sum_by-cons}
use Rattle.fux_grid.specs.declared.cell.Cell.{Cell}
use Rattle.fux_grid.specs.declared.exercise.Exercise.{Exercise}
use Rattle.fux_grid.specs.Cells.{cell_in}
use Rattle.fux_grid.specs.Exercises.{columns_in}
use Rattle.fux_grid.specs.Menus.{menu_of}
use Rattle.rule_law.specs.Terms.{started_pitch}
use Rattle.penalty_sheet.specs.declared.sheet.Sheet.{Sheet}
use Rattle.fux_judge.specs.Gauges.{gauges_of}
use Rattle.fux_judge.specs.Lawful.{IsLawful}
use Rattle.fux_judge.specs.Penalties.{paid}
use Rattle.open_ends.specs.declared.keeps.Keeps.{Keeps}
use Rattle.open_ends.specs.Parts.{HasVoices}
use Rattle.open_ends.proofs.GoesOn.{leads_on}
use Rattle.species_space.specs.Grows.{live_value, paths_grow}
use Rattle.species_space.specs.Paths.{column_at, columns_on, live_at, prefix_at}
use Rattle.tree_search.specs.Answer.{IsLeaf}
use Rattle.tree_search.proofs.Floors.{live_above}
use Rattle.floor_graphs.specs.Graphs.{Rate}
use Rattle.priced_paths.specs.Pricings.{IsOfCase, IsPriced, IsPricedStep}
use Rattle.priced_paths.specs.Tolls.{charged_from, has_reached, has_reached_from, sum_of}
use Rattle.priced_floors.specs.declared.charges.Charges.{Charges}
use Rattle.priced_floors.specs.ChargeLaws.{case_of_setting, charged_in_case}
use Rattle.priced_floors.specs.Charges.{AreFairCharges, column_charge, comes_to, debt_in, keeps_within, reaches_in, summit_at, toll_in}
use Rattle.priced_floors.specs.Kept.{kept_of, step_of}
use Rattle.priced_floors.specs.PathLaws.{cantus_there, columns_parted, leaf_lawful, leaf_value, live_step}

-- how many columns there are to choose from at a place
abbrev pub breadth_of : Exercise → ℕ → ℕ
breadth_of ex i = length (menu_of ex i)

-- what a unit of penalty is worth, and the debt
abbrev pub rate_in : Exercise → Charges → ℕ → Rate
rate_in ex charges case = record { scale = charges.scale; debt = debt_in ex charges case }

-- ---- what holds of them

module _ (ex : Exercise) (charges : Charges) (case : ℕ) where
  col_at : ℕ → ℕ → List Cell
  col_at i k = slice_index_or (menu_of ex i) k []

  -- a path none of whose notes is above the case is charged for each of its columns
  charged_on : (i : ℕ) (path : List ℕ)
      → list_all (λ col. keeps_within (summit_at charges case).high (started_pitch (cell_in col charges.voice)))
      (columns_on ex i path) ≡ true
      → charged_from (toll_in ex charges case) i path
      ≡ Some (sum_by (column_charge ex charges case) (columns_on ex i path))
  charged_on i [] h = refl
  charged_on i (k ∷ path) h =
      let keeps = keeps_within (summit_at charges case).high
      (started_pitch (cell_in (slice_index_or (menu_of ex i) k []) charges.voice)) in
      let parts = and_parts keeps
      (list_all (λ col. keeps_within (summit_at charges case).high (started_pitch (cell_in col charges.voice)))
      (columns_on ex (suc i) path)) h in
      let first : toll_in ex charges case i k
      ≡ Some (column_charge ex charges case (slice_index_or (menu_of ex i) k [])) = ap
      (λ b. if b then Some (column_charge ex charges case (slice_index_or (menu_of ex i) k [])) else None) parts.0 in
      let rest : charged_from (toll_in ex charges case) (i + 1) path
      ≡ Some (sum_by (column_charge ex charges case) (columns_on ex (suc i) path)) = ap
      (λ j. charged_from (toll_in ex charges case) j path) (add-one i) ∙ charged_on (suc i) path parts.1 in
      ap₂ sum_of first rest
      ∙ ap (λ n. Some n) (sym (sum_by-cons (column_charge ex charges case) (slice_index_or (menu_of ex i) k [])
      (columns_on ex (suc i) path)))

  -- and reaches what is asked for where one of its columns does
  reached_on : (i : ℕ) (path : List ℕ)
      → list_any (λ col. comes_to (summit_at charges case).low (started_pitch (cell_in col charges.voice)))
      (columns_on ex i path) ≡ true
      → has_reached_from (reaches_in ex charges case) i path ≡ true
  reached_on i [] h = cc
  reached_on i (k ∷ path) h =
      ap (λ j. reaches_in ex charges case i k || has_reached_from (reaches_in ex charges case) j path) (add-one i)
      ∙ at (reaches_in ex charges case i k)
      (list_any (λ col. comes_to (summit_at charges case).low (started_pitch (cell_in col charges.voice)))
      (columns_on ex (suc i) path)) h (reached_on (suc i) path)
    where
      at : (b c : Bool) → (b || c) ≡ true
          → (c ≡ true → has_reached_from (reaches_in ex charges case) (suc i) path ≡ true)
          → (b || has_reached_from (reaches_in ex charges case) (suc i) path) ≡ true
      at true c h rest = refl
      at false c h rest = rest h

  -- or where nothing is asked for
  reached_at_once : (path : List ℕ) → 0 < length path → (summit_at charges case).low ≡ 0
      → has_reached (reaches_in ex charges case) path ≡ true
  reached_at_once [] some none = absurd (omega (arith, some))
  reached_at_once (k ∷ path) some none =
      ap (λ b. b || has_reached_from (reaches_in ex charges case) (0 + 1) path)
      (ap (λ low. comes_to low (started_pitch (cell_in (slice_index_or (menu_of ex 0) k []) charges.voice))) none)

module _ (ex : Exercise) (sheet : Sheet) (keeps : Keeps) (charges : Charges) (voices : HasVoices ex)
    (fair : AreFairCharges charges sheet) where
  step_priced : (path rest : List ℕ) (child value : ℕ)
      → IsLeaf (live_at ex sheet) (columns_in ex) ((path ++ child ∷ []) ++ rest) value
      → IsPricedStep (kept_of ex keeps) (λ p. paid ex sheet (prefix_at ex p)) (breadth_of ex) (step_of ex sheet keeps) path
      child
  step_priced path rest child value leaf =
      let own = live_above (paths_grow ex sheet) rest (path ++ child ∷ []) value leaf.1 in
      let alive = (live_value ex sheet (path ++ child ∷ []) own.0 own.1).0 in
      let L : List (List Cell) → Type 0 = λ s. IsLawful ex s in
      let lawful = subst L (columns_parted ex path rest child)
      (leaf_lawful ex sheet voices.most_voices ((path ++ child ∷ []) ++ rest) value leaf) in
      let step = live_step ex sheet path child keeps
      (leads_on ex sheet keeps voices (cantus_there ex (path ++ child ∷ []) alive) (prefix_at ex path)
      (column_at ex path child) (columns_on ex (0 + length (path ++ child ∷ [])) rest) lawful)
      alive in
      record {
        within = (paths_grow ex sheet path child own.0 own.1).within;
        cost = step.cost;
        is_step = step.is;
        paid = step.settles;
      }

  leaf_priced : (path : List ℕ) (value : ℕ) → IsLeaf (live_at ex sheet) (columns_in ex) path value
      → (case : ℕ) × (case < length charges.summits.items)
      × IsOfCase (toll_in ex charges case) (reaches_in ex charges case) (rate_in ex charges case)
      (paid ex sheet (prefix_at ex path)) path value
  leaf_priced path value leaf =
      let its = case_of_setting charges sheet fair (prefix_at ex path) in
      let due = charged_in_case ex charges sheet fair its.0 (prefix_at ex path) its.1.within in
      let scaled = mul-le-mul_left charges.scale (leaf_value ex sheet path value leaf) in (
        its.0,
        its.1.there,
        record {
          charged = sum_by (column_charge ex charges its.0) (prefix_at ex path);
          is_charged = charged_on ex charges its.0 0 path its.1.none_above;
          reached = ⊎_elim
              (λ none. reached_at_once ex charges its.0 path (omega (arith, leaf.0, voices.fewest_bars)) none)
              (λ comes. reached_on ex charges its.0 0 path comes) its.1.one_comes;
          due = omega (
            arith,
            due,
            scaled,
            mul-add charges.scale (paid ex sheet (prefix_at ex path)) (gauges_of ex sheet (prefix_at ex path)),
          );
        },
      )

  pub settings_are_priced : IsPriced (live_at ex sheet) (columns_in ex) (kept_of ex keeps)
      (λ p. paid ex sheet (prefix_at ex p)) (breadth_of ex) (step_of ex sheet keeps) (toll_in ex charges) (reaches_in ex charges) (length charges.summits.items)
      (rate_in ex charges)
  settings_are_priced = record { start = refl; steps = step_priced; leaves = leaf_priced }
