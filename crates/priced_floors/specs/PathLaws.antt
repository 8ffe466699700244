-- Steps of live paths are steps of what is kept (`live_step`), and a leaf's value is no less than
-- what is settled of it and what its lines cost (`leaf_value`).
use Rattle.std.specs.Prelude.{◌≡◌, ℕ, suc, ◌+◌, ◌<◌, ◌≤◌, true, nat_le, nat_lt, List, [], ◌∷◌, ◌++◌, Option, Some, None, IsSomeAnd, length, option_and_then, reverse, slice_get, slice_index_or, if◌then◌else◌, refl}
use Rattle.std.proofs.Common.{ap, ap₂, append_assoc, sym, ◌∙◌, arith}
use Rattle.std.proofs.lemmas.Grind.{reverse_onto}
use Rattle.std.proofs.lemmas.Option.{slice_get-get_or}
use Rattle.fux_grid.specs.declared.cell.Cell.{Cell}
use Rattle.fux_grid.specs.declared.exercise.Exercise.{Exercise}
use Rattle.fux_grid.specs.Columns.{newest_column}
use Rattle.fux_grid.specs.Exercises.{columns_in}
use Rattle.fux_grid.specs.Menus.{menu_of}
use Rattle.fux_grid.proofs.Histories.{reverse-push}
use Rattle.rule_law.specs.Law.{below_from_test, first_true, second_true}
use Rattle.rule_law.specs.Prefixes.{IsSetting}
use Rattle.penalty_sheet.specs.declared.sheet.Sheet.{Sheet}
use Rattle.chain_sums.specs.Chains.{cells_of}
use Rattle.fux_judge.specs.Gauges.{gauges_of}
use Rattle.fux_judge.specs.Lawful.{IsLawful}
use Rattle.fux_judge.specs.Links.{last_column, link_of, newest_of}
use Rattle.fux_judge.specs.Penalties.{newly_paid, paid}
use Rattle.fux_judge.proofs.Alive.{unbroken_if_alive}
use Rattle.fux_judge.proofs.Grows.{paid_grows}
use Rattle.fux_judge.proofs.LeastLaws.{least_at_end}
use Rattle.open_ends.specs.declared.keeps.Keeps.{Keeps}
use Rattle.open_ends.specs.Ends.{LeadsOn, ends_after, ends_in}
use Rattle.species_space.specs.Exact.{menus_are_exact}
use Rattle.species_space.specs.FloorLaws.{FloorParts, floor_parts}
use Rattle.species_space.specs.Grows as grows
use Rattle.species_space.specs.Leaves.{prefix_is_alive}
use Rattle.species_space.specs.Paths.{IsAlivePath, alive_parent, alive_parts, column_at, column_follows, columns_on, history_follows, is_alive_path, is_in_menus, length-columns_on, live_at, prefix_at, prefix_at-append}
use Rattle.tree_search.specs.Answer.{IsLeaf}
use Rattle.priced_floors.specs.declared.kept.Kept.{Kept}
use Rattle.priced_floors.specs.Kept.{column_kept, kept_of, kept_with, last_number, step_of, step_on}

-- ---- what is kept

pub last_number-append : (path : List ℕ) (k : ℕ) → last_number (path ++ k ∷ []) ≡ Some k
last_number-append [] k = refl
last_number-append (l ∷ []) k = refl
last_number-append (l ∷ m ∷ path) k = last_number-append (m ∷ path) k

last_of_more : (col c : List Cell) (cols : List (List Cell)) → last_column (col ∷ c ∷ cols) ≡ last_column (c ∷ cols)
last_of_more col c cols =
    ap newest_of (reverse_onto (c ∷ cols) col []) ∙ ap (λ h. newest_of (h ++ col ∷ [])) (reverse_onto cols c [])
    ∙ at (reverse cols) ∙ sym (ap newest_of (reverse_onto cols c []))
  where
    at : (h : List (List Cell)) → newest_of ((h ++ c ∷ []) ++ col ∷ []) ≡ newest_of (h ++ c ∷ [])
    at [] = refl
    at (x ∷ h) = refl

module _ (ex : Exercise) where
  last_on : (i k : ℕ) (path : List ℕ) → is_in_menus ex i (k ∷ path) ≡ true
      → option_and_then (slice_get (menu_of ex (i + length path))) (last_number (k ∷ path))
      ≡ last_column (columns_on ex i (k ∷ path))
  last_on i k [] h =
      let e : i + 0 ≡ i = omega arith in
      let within : k < length (menu_of ex i) = below_from_test k (length (menu_of ex i))
      (first_true (nat_lt k (length (menu_of ex i))) true h) in
      ap (λ j. slice_get (menu_of ex j) k) e ∙ slice_get-get_or (menu_of ex i) k [] within
  last_on i k (l ∷ path) h =
      let e : i + suc (length path) ≡ suc i + length path = omega arith in
      ap (λ j. option_and_then (slice_get (menu_of ex j)) (last_number (l ∷ path))) e
      ∙ last_on (suc i) l path (second_true (nat_lt k (length (menu_of ex i))) (is_in_menus ex (suc i) (l ∷ path)) h)
      ∙ sym (last_of_more (slice_index_or (menu_of ex i) k []) (slice_index_or (menu_of ex (suc i)) l [])
      (columns_on ex (suc (suc i)) path))

  -- of a path through the menus the column that is kept is the last one of its prefix
  pub kept_is : (keeps : Keeps) (path : List ℕ) → is_in_menus ex 0 path ≡ true
      → column_kept ex (length path) (kept_of ex keeps path) ≡ last_column (prefix_at ex path)
  kept_is keeps [] h = refl
  kept_is keeps (k ∷ path) h =
      let e : length path ≡ 0 + length path = omega arith in
      ap (λ j. option_and_then (slice_get (menu_of ex j)) (last_number (k ∷ path))) e ∙ last_on 0 k path h

newest_cells : (h : List (List Cell)) → newest_column h ≡ cells_of (newest_of h)
newest_cells [] = refl
newest_cells (col ∷ cols) = refl

-- ---- steps

-- the step of a number goes on from what is kept of a path to what is kept of the longer one, and
-- that has paid what the step settles
pub record IsStepOf (ex : Exercise) (sheet : Sheet) (keeps : Keeps) (path : List ℕ) (k : ℕ) : Type 0 where
  pub cost : ℕ
  pub is : step_of ex sheet keeps (length path) (kept_of ex keeps path) k ≡ Some (kept_of ex keeps (path ++ k ∷ []), cost)
  pub settles : paid ex sheet (prefix_at ex path) + cost ≤ paid ex sheet (prefix_at ex (path ++ k ∷ []))

module _ (ex : Exercise) (sheet : Sheet) (path : List ℕ) (k : ℕ) where
  abbrev before : Option (List Cell)
  before = last_column (prefix_at ex path)

  -- the last column of a live path follows the one before it
  last_follows : IsAlivePath ex (path ++ k ∷ []) → column_follows (cells_of before) (column_at ex path k) ≡ true
  last_follows alive =
      ap (λ cells. column_follows cells (column_at ex path k)) (sym (newest_cells (reverse (prefix_at ex path))))
      ∙ first_true (column_follows (newest_column (reverse (prefix_at ex path))) (column_at ex path k))
      (history_follows (reverse (prefix_at ex path)))
      (sym (ap (λ q. history_follows (reverse q)) (prefix_at-append ex path k)
      ∙ ap history_follows (reverse-push (prefix_at ex path) (column_at ex path k))) ∙ alive.follows)

  module _ (keeps : Keeps) (leads : LeadsOn ex sheet keeps (prefix_at ex path) (column_at ex path k)) where
    size : length (prefix_at ex path) ≡ length path
    size = length-columns_on ex 0 path

    abbrev longer : Kept
    longer = record {
      column = Some k;
      ends = ends_in ex keeps (prefix_at ex path ++ column_at ex path k ∷ []);
    }

    ended : ends_after ex sheet keeps (length path) (ends_in ex keeps (prefix_at ex path)) (cells_of before)
        (column_at ex path k)
        ≡ Some (longer.ends, leads.cost)
    ended =
        ap (λ n. ends_after ex sheet keeps n (ends_in ex keeps (prefix_at ex path)) (cells_of before) (column_at ex path k))
        (sym size)
        ∙ ap (λ b. ends_after ex sheet keeps (length (prefix_at ex path)) (ends_in ex keeps (prefix_at ex path)) b
        (column_at ex path k))
        (sym (newest_cells (reverse (prefix_at ex path))))
        ∙ leads.is

    longer_is : longer ≡ kept_of ex keeps (path ++ k ∷ [])
    longer_is =
        let K : Option ℕ → List (List Cell) → Kept = λ o q. record { column = o; ends = ends_in ex keeps q } in
        ap (λ o. K o (prefix_at ex path ++ column_at ex path k ∷ [])) (sym (last_number-append path k))
        ∙ ap (K (last_number (path ++ k ∷ []))) (sym (prefix_at-append ex path k))

    step_with : is_in_menus ex 0 path ≡ true → column_follows (cells_of before) (column_at ex path k) ≡ true
        → (own : Option ℕ) → link_of ex sheet (length (prefix_at ex path)) before (column_at ex path k) ≡ own
        → IsSomeAnd own (λ cost. cost + leads.cost ≤ newly_paid ex sheet (prefix_at ex path) (column_at ex path k))
        → IsStepOf ex sheet keeps path k
    unfolding step_of
    step_with menus follows None e low = absurd low
    step_with menus follows (Some own) e low =
        let kept = kept_is ex keeps path menus in
        record {
          cost = own + leads.cost;
          is = ap (λ b. if b then step_on ex sheet keeps (length path) (kept_of ex keeps path) k
              (column_kept ex (length path) (kept_of ex keeps path))
              else None)
              (ap (λ o. column_follows (cells_of o) (column_at ex path k)) kept ∙ follows)
              ∙ ap (step_on ex sheet keeps (length path) (kept_of ex keeps path) k) kept
              ∙ ap₂ (kept_with k) ended (ap (λ n. link_of ex sheet n before (column_at ex path k)) (sym size) ∙ e)
              ∙ ap (λ its. Some (its, own + leads.cost)) longer_is;
          settles = omega (
            arith,
            low,
            ap (paid ex sheet) (prefix_at-append ex path k),
            paid_grows ex (prefix_at ex path) (column_at ex path k) sheet,
          );
        }

    -- the last step of a live path is a step of what is kept, where that leads on
    pub live_step : is_alive_path ex (path ++ k ∷ []) ≡ true → IsStepOf ex sheet keeps path k
    live_step alive =
        step_with (alive_parts ex path (alive_parent ex path k alive)).menus
        (last_follows (alive_parts ex (path ++ k ∷ []) alive))
        (link_of ex sheet (length (prefix_at ex path)) before (column_at ex path k)) refl leads.settles

-- ---- leaves

columns_on-both : (ex : Exercise) (i : ℕ) (path rest : List ℕ)
    → columns_on ex i (path ++ rest) ≡ columns_on ex i path ++ columns_on ex (i + length path) rest
columns_on-both ex i [] rest = let e : i ≡ i + 0 = omega arith in ap (λ j. columns_on ex j rest) e
columns_on-both ex i (k ∷ path) rest =
    let e : suc i + length path ≡ i + suc (length path) = omega arith in
    ap (λ cols. slice_index_or (menu_of ex i) k [] ∷ cols)
    (columns_on-both ex (suc i) path rest
    ∙ ap (λ j. columns_on ex (suc i) path ++ columns_on ex j rest) e)

-- the columns of a path that goes on: those before, the next one, and more
pub columns_parted : (ex : Exercise) (path rest : List ℕ) (k : ℕ)
    → prefix_at ex ((path ++ k ∷ []) ++ rest)
    ≡ prefix_at ex path ++ column_at ex path k ∷ columns_on ex (0 + length (path ++ k ∷ [])) rest
columns_parted ex path rest k =
    columns_on-both ex 0 (path ++ k ∷ []) rest
    ∙ ap (λ p. p ++ columns_on ex (0 + length (path ++ k ∷ [])) rest) (prefix_at-append ex path k)
    ∙ append_assoc (prefix_at ex path) (column_at ex path k ∷ []) (columns_on ex (0 + length (path ++ k ∷ [])) rest)

-- in a space that has a live path the cantus voice is there
pub cantus_there : (ex : Exercise) (path : List ℕ) → is_alive_path ex path ≡ true → ex.cantus_voice < ex.voices
cantus_there ex path alive =
    below_from_test ex.cantus_voice ex.voices
    (second_true (nat_le ex.voices 4) (nat_lt ex.cantus_voice ex.voices) (alive_parts ex path alive).voices)

-- a leaf leads to a lawful setting
pub leaf_lawful : (ex : Exercise) (sheet : Sheet) → ex.voices ≤ 4 → (path : List ℕ) (value : ℕ)
    → IsLeaf (live_at ex sheet) (columns_in ex) path value → IsLawful ex (prefix_at ex path)
leaf_lawful ex sheet few path value leaf =
    let live = grows.live_value ex sheet path value leaf.1 in
    let alive = prefix_is_alive ex (menus_are_exact ex) path live.0 in
    let whole : length (prefix_at ex path) ≡ columns_in ex = length-columns_on ex 0 path ∙ leaf.0 in
    let setting : IsSetting ex (prefix_at ex path) = record { prefix = alive.prefix; whole = whole } in
    record {
      setting = setting;
      unbroken = unbroken_if_alive ex few (prefix_at ex path) setting alive.unbroken;
    }

-- a leaf's value is no less than what is paid of it and what its lines cost
pub leaf_value : (ex : Exercise) (sheet : Sheet) (path : List ℕ) (value : ℕ)
    → IsLeaf (live_at ex sheet) (columns_in ex) path value
    → paid ex sheet (prefix_at ex path) + gauges_of ex sheet (prefix_at ex path) ≤ value
leaf_value ex sheet path value leaf =
    let live = grows.live_value ex sheet path value leaf.1 in
    let alive = prefix_is_alive ex (menus_are_exact ex) path live.0 in
    let whole : length (prefix_at ex path) ≡ columns_in ex = length-columns_on ex 0 path ∙ leaf.0 in
    let setting : IsSetting ex (prefix_at ex path) = record { prefix = alive.prefix; whole = whole } in
    let parts : FloorParts ex sheet (prefix_at ex path) value = floor_parts ex sheet (prefix_at ex path) value live.1 in
    omega (arith, parts.sum, least_at_end ex sheet (prefix_at ex path) setting)
