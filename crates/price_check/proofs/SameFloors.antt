-- What lists of prices say depends on what is stated alone (`stated_floors_are_one`): the parts of
-- charges that sums read are told by the lines.
use Rattle.std.proofs.Common.{◌≡◌, ℕ, ◌+◌, ◌*◌, ◌==◌, Bool, List, [], ◌∷◌, Option, Some, None, length, slice_index_or, refl, ap, ap₂, sym, ◌∙◌, if◌then◌else◌}
use Rattle.std.specs.List.{sum_by}
use Rattle.floor_graphs.specs.Sharper.{greater}
use Rattle.fux_grid.specs.declared.cell.Cell.{Cell}
use Rattle.fux_grid.specs.declared.exercise.Exercise.{Exercise}
use Rattle.fux_grid.specs.Cells.{cell_in}
use Rattle.fux_grid.specs.Exercises.{columns_in}
use Rattle.fux_grid.specs.Menus.{menu_of}
use Rattle.fux_judge.specs.Gauges.{free_voices}
use Rattle.open_ends.specs.declared.keeps.Keeps.{Keeps}
use Rattle.priced_paths.specs.LeastRests.{least_sum}
use Rattle.penalty_sheet.specs.declared.sheet.Sheet.{Sheet}
use Rattle.price_check.specs.PriceLists.{PriceList, case_in, charged_sum, greatest_sum, least_on, list_sum, paid_on, path_of, sharp_floor, spent_by, spent_of}
use Rattle.price_check.specs.Laws.{StatedFloorsAreOne}
use Rattle.price_check.specs.Stated.{AreEachStated, IsStated, StatedList, lists_of}
use Rattle.priced_floors.specs.declared.charges.Charges.{Charges}
use Rattle.priced_floors.specs.declared.prices.Prices.{Prices}
use Rattle.priced_floors.specs.declared.prices.Summit.{Summit}
use Rattle.priced_floors.specs.Charges.{any_summit, comes_to, keeps_within, note_charge, prices_in}
use Rattle.priced_floors.specs.Fairness.{debt_of}
use Rattle.priced_floors.specs.Kept.{kept_of, step_of}
use Rattle.priced_floors.specs.PricedLaws.{breadth_of}
use Rattle.priced_paths.specs.CaseGraphs.{Case, case_of}
use Rattle.rule_law.specs.Terms.{started_pitch}

-- a case by the parts of charges that it reads
abbrev summit_by : ℕ → List Summit → ℕ → ℕ → Summit
summit_by voice summits case v = if v == voice then slice_index_or summits case any_summit else any_summit

abbrev case_by : Exercise → ℕ → List Prices → ℕ → List Summit → ℕ → Case
case_by ex scale strikes voice summits = case_of
    (λ case i k. let col = slice_index_or (menu_of ex i) k [] in
    if keeps_within (slice_index_or summits case any_summit).high (started_pitch (cell_in col voice))
    then Some (sum_by (λ v. note_charge (prices_in scale strikes (4 * case + v)) (summit_by voice summits case v)
    (started_pitch (cell_in col v))) (free_voices ex)) else None)
    (λ case i k. comes_to (slice_index_or summits case any_summit).low
    (started_pitch (cell_in (slice_index_or (menu_of ex i) k []) voice)))
    (λ case. record {
      scale = scale;
      debt = sum_by (λ v. debt_of (prices_in scale strikes (4 * case + v)) (summit_by voice summits case v)) (free_voices ex);
    })

case_is : (ex : Exercise) (charges : Charges)
    → case_in ex charges ≡ case_by ex charges.scale charges.strikes.items charges.voice charges.summits.items
case_is ex charges = refl

module _ (ex : Exercise) (sheet : Sheet) (path : List ℕ) where
  -- a sum by these parts
  abbrev sum_by_parts : Keeps → (ℕ → Case) → ℕ → Bool → Option ℕ
  sum_by_parts keeps case count plain =
      least_sum (columns_in ex) (kept_of ex keeps []) (breadth_of ex) (step_of ex sheet keeps) case count
      (spent_by plain (paid_on ex sheet path) (least_on ex sheet path)) path

  sum_is : (list : PriceList)
      → charged_sum ex sheet list.keeps list.charges
      (spent_by list.plain (paid_on ex sheet path) (least_on ex sheet path)) path
      ≡ sum_by_parts list.keeps (case_in ex list.charges) (length list.charges.summits.items) list.plain
  unfolding charged_sum
  sum_is list = refl

module _ (ex : Exercise) (sheet : Sheet) (stated : StatedList) (one other : PriceList) (is : IsStated sheet stated one)
    (also : IsStated sheet stated other) where
  same_cases : case_in ex one.charges ≡ case_in ex other.charges
  same_cases =
      ap (λ n. case_by ex n one.charges.strikes.items one.charges.voice one.charges.summits.items)
      (is.scale ∙ sym also.scale)
      ∙ ap (λ (ps : List Prices). case_by ex other.charges.scale ps one.charges.voice one.charges.summits.items)
      (is.strikes ∙ sym also.strikes)
      ∙ ap (λ n. case_by ex other.charges.scale other.charges.strikes.items n one.charges.summits.items)
      (is.voice ∙ sym also.voice)
      ∙ ap (λ (ss : List Summit). case_by ex other.charges.scale other.charges.strikes.items other.charges.voice ss)
      (is.summits ∙ sym also.summits)

  same_sums : (p : List (List Cell)) → list_sum ex sheet one p ≡ list_sum ex sheet other p
  same_sums p =
      let path = path_of ex p in
      sum_is ex sheet path one
      ∙ ap (λ (k : Keeps). sum_by_parts ex sheet path k (case_in ex one.charges) (length one.charges.summits.items) one.plain)
      (is.keeps ∙ sym also.keeps)
      ∙ ap (λ (c : ℕ → Case). sum_by_parts ex sheet path other.keeps c (length one.charges.summits.items) one.plain) same_cases
      ∙ ap (λ (ss : List Summit). sum_by_parts ex sheet path other.keeps (case_in ex other.charges) (length ss) one.plain)
      (is.summits ∙ sym also.summits)
      ∙ ap (λ (b : Bool). sum_by_parts ex sheet path other.keeps (case_in ex other.charges) (length other.charges.summits.items) b)
      (is.plain ∙ sym also.plain)
      ∙ sym (sum_is ex sheet path other)

greatest_same : (ex : Exercise) (sheet : Sheet) (p : List (List Cell)) (least : ℕ) (all : List StatedList)
    (lists others : List PriceList) → AreEachStated sheet all lists → AreEachStated sheet all others
    → greatest_sum ex sheet least lists p ≡ greatest_sum ex sheet least others p
greatest_same ex sheet p least [] [] [] are also = refl
greatest_same ex sheet p least [] [] (other ∷ others) are also = absurd also
greatest_same ex sheet p least [] (list ∷ lists) others are also = absurd are
greatest_same ex sheet p least (s ∷ all) [] others are also = absurd are
greatest_same ex sheet p least (s ∷ all) (list ∷ lists) [] are also = absurd also
greatest_same ex sheet p least (s ∷ all) (list ∷ lists) (other ∷ others) are also =
    ap₂ greater (same_sums ex sheet s list other are.0 also.0 p) (greatest_same ex sheet p least all lists others are.1 also.1)

pub stated_floors_are_one : StatedFloorsAreOne
unfolding sharp_floor
stated_floors_are_one ex sheet lines lists others p are also =
    greatest_same ex sheet p (spent_of ex sheet p) (lists_of lines) lists others are also
