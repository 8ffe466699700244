-- Strict breaks and penalties.
use Rattle.std.specs.Prelude.{ℕ, ◌+◌, ◌*◌, Bool, ◌&&◌, List, [], ◌∷◌, ◌++◌, length, take, slice_index_or, if◌then◌else◌}
use Rattle.std.specs.List.{list_any, sum_by}
use Rattle.fux_grid.specs.declared.cell.Cell.{Cell}
use Rattle.fux_grid.specs.declared.exercise.Exercise.{Exercise}
use Rattle.fux_grid.specs.Exercises.{bar_of}
use Rattle.rule_law.specs.Places.{Reading}
use Rattle.rule_law.specs.Growth.{any_below, sum_below, newly}
use Rattle.penalty_sheet.specs.declared.sheet.Sheet.{Sheet}
use Rattle.penalty_sheet.specs.Prices.{price_in, is_strict, amount_of}
use Rattle.penalty_sheet.specs.Weights.{weight_of}
use Rattle.fux_judge.specs.Gauges.{gauges_of}
use Rattle.fux_judge.specs.Rules.{rules_read, tolls_read, all_sets, is_broken, is_settled, cost_at, is_cost_settled}

-- a break at a column is strict where no relax line of the exercise gives it a price
abbrev pub is_strict_at : ℕ → Exercise → ℕ → ℕ → Bool
is_strict_at rule ex voices i = is_strict (price_in ex rule voices (bar_of i))

-- the price of a relaxed break at a column, 0 where a break would be strict
abbrev pub price_at_place : ℕ → Exercise → ℕ → ℕ → ℕ
price_at_place rule ex voices i = amount_of (price_in ex rule voices (bar_of i))

-- what a rule costs for a set of voices at a place: the price of a relaxed break, where it is
-- broken
abbrev pub price_read : ℕ → Exercise → ℕ → Reading ℕ
price_read rule ex voices s i = if is_broken rule ex voices s i then price_at_place rule ex voices i else 0

-- a strict break of a rule is settled at a place of a prefix
abbrev pub is_strictly_broken : ℕ → Exercise → ℕ → Reading Bool
is_strictly_broken rule ex voices p i =
    is_settled rule ex voices p i && is_broken rule ex voices p i && is_strict_at rule ex voices i

-- a column settles a strict break of a rule, for a set of voices, at a place: none before it did
abbrev pub newly_broken_at : ℕ → Exercise → ℕ → List (List Cell) → List Cell → ℕ → Bool
newly_broken_at rule ex voices p col i =
    newly (is_settled rule ex voices) p col i && is_broken rule ex voices (p ++ col ∷ []) i
    && is_strict_at rule ex voices i

-- the column settles a strict break of a rule, for some set of voices, at some place
abbrev pub newly_broken : Exercise → List (List Cell) → List Cell → ℕ → Bool
newly_broken ex p col rule =
    list_any (λ voices. any_below (newly_broken_at rule ex voices p col) (length p + 1)) all_sets

-- it settles a strict break of some rule that is read
abbrev pub settles_break : Exercise → List (List Cell) → List Cell → Bool
settles_break ex p col = list_any (newly_broken ex p col) rules_read

-- what the column settles of a toll at a place, by its weight, and of the prices of a rule
abbrev pub new_toll : Exercise → Sheet → List (List Cell) → List Cell → ℕ → ℕ → ℕ
new_toll ex sheet p col i toll =
    if newly (is_cost_settled toll ex) p col i then cost_at toll ex (p ++ col ∷ []) i * weight_of sheet toll else 0

abbrev pub new_price : Exercise → List (List Cell) → List Cell → ℕ → ℕ → ℕ → ℕ
new_price ex p col i rule voices =
    if newly (is_settled rule ex voices) p col i then price_read rule ex voices (p ++ col ∷ []) i else 0

-- what it settles of all of them at a place
abbrev pub new_tolls : Exercise → Sheet → List (List Cell) → List Cell → ℕ → ℕ
new_tolls ex sheet p col i = sum_by (new_toll ex sheet p col i) tolls_read

abbrev pub new_prices : Exercise → List (List Cell) → List Cell → ℕ → ℕ
new_prices ex p col i = sum_by (λ rule. sum_by (new_price ex p col i rule) all_sets) rules_read

-- and at all places
abbrev pub newly_paid : Exercise → Sheet → List (List Cell) → List Cell → ℕ
newly_paid ex sheet p col = sum_below (λ i. new_tolls ex sheet p col i + new_prices ex p col i) (length p + 1)

-- a strict break is settled in a prefix: one of its columns settles it, read in the prefix that
-- ends there
abbrev pub breaks_by_column : Exercise → List (List Cell) → ℕ → Bool
breaks_by_column ex p k = settles_break ex (take k p) (slice_index_or p k [])

abbrev pub has_strict_break : Exercise → List (List Cell) → Bool
has_strict_break ex p = any_below (breaks_by_column ex p) (length p)

-- what is paid of a prefix: what each of its columns settles, read in the prefix that ends there
abbrev pub paid_by_column : Exercise → Sheet → List (List Cell) → ℕ → ℕ
paid_by_column ex sheet p k = newly_paid ex sheet (take k p) (slice_index_or p k [])

abbrev pub paid : Exercise → Sheet → List (List Cell) → ℕ
paid ex sheet p = sum_below (paid_by_column ex sheet p) (length p)

-- what the tolls cost at a place, each by its weight
abbrev pub tolls_at : Exercise → Sheet → Reading ℕ
tolls_at ex sheet s i = sum_by (λ toll. cost_at toll ex s i * weight_of sheet toll) tolls_read

-- the prices of the relaxed breaks at a place
abbrev pub prices_at : Exercise → Reading ℕ
prices_at ex s i = sum_by (λ rule. sum_by (λ voices. price_read rule ex voices s i) all_sets) rules_read

-- what a list of columns costs by tolls and prices, over all its places
abbrev pub charges_of : Exercise → Sheet → List (List Cell) → ℕ
charges_of ex sheet s = sum_below (λ i. tolls_at ex sheet s i + prices_at ex s i) (length s)

-- the penalty of a setting: that, and what the lines of its free voices cost
abbrev pub penalty_of : Exercise → Sheet → List (List Cell) → ℕ
penalty_of ex sheet s = charges_of ex sheet s + gauges_of ex sheet s

-- the same readings in the list itself: of an orderly prefix, and of a setting that begins with
-- none but orderly ones, they are those above
abbrev pub has_break_settled_in : Exercise → List (List Cell) → Bool
has_break_settled_in ex p =
    any_below (λ i. list_any (λ rule. list_any (λ voices. is_strictly_broken rule ex voices p i) all_sets) rules_read)
    (length p)

abbrev pub settled_tolls : Exercise → Sheet → Reading ℕ
settled_tolls ex sheet p i =
    sum_by (λ toll. if is_cost_settled toll ex p i then cost_at toll ex p i * weight_of sheet toll else 0) tolls_read

abbrev pub settled_prices : Exercise → Reading ℕ
settled_prices ex p i =
    sum_by (λ rule. sum_by (λ voices. if is_settled rule ex voices p i then price_read rule ex voices p i else 0)
    all_sets) rules_read

abbrev pub charges_settled_in : Exercise → Sheet → List (List Cell) → ℕ
charges_settled_in ex sheet p = sum_below (λ i. settled_tolls ex sheet p i + settled_prices ex p i) (length p)
