-- Lists of prices, and the floors of prefixes by them.
use Rattle.std.specs.Prelude.{ℕ, suc, ◌+◌, ◌-◌, Bool, true, false, List, [], ◌∷◌, Option, Some, option_map, length}
use Rattle.cert_law.specs.Tails.{number_of}
use Rattle.floor_graphs.specs.Sharper.{greater}
use Rattle.fux_grid.specs.declared.cell.Cell.{Cell}
use Rattle.fux_grid.specs.declared.exercise.Exercise.{Exercise}
use Rattle.fux_grid.specs.Exercises.{columns_in}
use Rattle.fux_grid.specs.Menus.{menu_of}
use Rattle.fux_judge.specs.Gauges.{least_of}
use Rattle.fux_judge.specs.Penalties.{paid}
use Rattle.open_ends.specs.declared.keeps.Keeps.{Keeps}
use Rattle.penalty_sheet.specs.declared.sheet.Sheet.{Sheet}
use Rattle.priced_paths.specs.LeastRests.{least_sum}
use Rattle.priced_floors.specs.declared.charges.Charges.{Charges}
use Rattle.priced_floors.specs.Charges.{reaches_in, toll_in}
use Rattle.priced_floors.specs.Kept.{kept_of, step_of}
use Rattle.priced_floors.specs.PricedLaws.{breadth_of, rate_in}
use Rattle.priced_paths.specs.CaseGraphs.{Case, case_of}
use Rattle.species_space.specs.Paths.{prefix_at}

-- a list: what is kept beside what always is, what notes are charged, and whether it is a plain one,
-- which charges nothing
pub record PriceList : Type 0 where
  pub keeps : Keeps
  pub charges : Charges
  pub plain : Bool

-- ---- prefixes by the numbers of their columns

-- the numbers of columns in the menus of their places, from a place on
abbrev pub numbers_from : Exercise → ℕ → List (List Cell) → List ℕ
numbers_from ex i [] = []
numbers_from ex i (col ∷ p) = number_of (menu_of ex i) col ∷ numbers_from ex (suc i) p

-- those of a prefix
abbrev pub path_of : Exercise → List (List Cell) → List ℕ
path_of ex p = numbers_from ex 0 p

-- what is paid of a prefix, and what its lines cost at least
abbrev pub paid_on : Exercise → Sheet → List ℕ → ℕ
paid_on ex sheet path = paid ex sheet (prefix_at ex path)

abbrev pub least_on : Exercise → Sheet → List ℕ → ℕ
least_on ex sheet path = least_of ex sheet (prefix_at ex path)

-- ---- sums

-- a case of some charges
abbrev pub case_in : Exercise → Charges → ℕ → Case
case_in ex charges = case_of (toll_in ex charges) (reaches_in ex charges) (rate_in ex charges)

-- the least of the sums of its cases, where so much is spent; none where none of them has one
unfoldable pub charged_sum : Exercise → Sheet → Keeps → Charges → ℕ → List ℕ → Option ℕ
charged_sum ex sheet keeps charges spent path =
    least_sum (columns_in ex) (kept_of ex keeps []) (breadth_of ex) (step_of ex sheet keeps) (case_in ex charges)
    (length charges.summits.items) spent path

-- what is spent: what is paid, and in a plain list what the lines cost at least too
abbrev pub spent_by : Bool → ℕ → ℕ → ℕ
spent_by false paid least = paid
spent_by true paid least = paid + least

-- the sum in a list of a path
abbrev pub sum_with : Exercise → Sheet → PriceList → List ℕ → Option ℕ
sum_with ex sheet list path =
    charged_sum ex sheet list.keeps list.charges (spent_by list.plain (paid_on ex sheet path) (least_on ex sheet path)) path

-- a list's sum of a prefix
abbrev pub list_sum : Exercise → Sheet → PriceList → List (List Cell) → Option ℕ
list_sum ex sheet list p = sum_with ex sheet list (path_of ex p)

-- the greatest of the sums of all lists, and of a number; none where a list has none
abbrev pub greatest_sum : Exercise → Sheet → ℕ → List PriceList → List (List Cell) → Option ℕ
greatest_sum ex sheet least [] p = Some least
greatest_sum ex sheet least (list ∷ lists) p = greater (list_sum ex sheet list p) (greatest_sum ex sheet least lists p)

-- ---- floors

-- what is paid of a prefix, with what its lines cost at least
abbrev pub spent_of : Exercise → Sheet → List (List Cell) → ℕ
spent_of ex sheet p = paid ex sheet p + least_of ex sheet p

-- the floor of a prefix by some lists: the greatest of their sums, and of what is paid and its
-- lines cost at least; none where a list has no sum
unfoldable pub sharp_floor : Exercise → Sheet → List PriceList → List (List Cell) → Option ℕ
sharp_floor ex sheet lists p = greatest_sum ex sheet (spent_of ex sheet p) lists p

-- the tail that gives this floor: what it is above what is paid and its lines cost at least
abbrev pub sharp_tail : Exercise → Sheet → List PriceList → List (List Cell) → Option ℕ
sharp_tail ex sheet lists p = option_map (λ floor. floor - spent_of ex sheet p) (sharp_floor ex sheet lists p)
