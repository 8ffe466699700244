-- What one column settles, as it is read: of rules and tolls that are settled at once at its own
-- place, of late ones at their places.
use Rattle.std.specs.Prelude.{ℕ, ◌+◌, ◌*◌, ◌==◌, Bool, ◌&&◌, List, [], ◌∷◌, ◌++◌, length, if◌then◌else◌}
use Rattle.std.specs.List.{list_any, sum_by}
use Rattle.fux_grid.specs.declared.cell.Cell.{Cell}
use Rattle.fux_grid.specs.declared.exercise.Exercise.{Exercise}
use Rattle.rule_law.specs.Forms.{sets_of}
use Rattle.rule_law.specs.Growth.{any_below, sum_below}
use Rattle.penalty_sheet.specs.declared.sheet.Sheet.{Sheet}
use Rattle.penalty_sheet.specs.Weights.{weight_of}
use Rattle.fux_judge.specs.Rules.{all_sets, rule_at, toll_at, is_broken, cost_at, late_rules, tolls_at_once}
use Rattle.fux_judge.specs.Penalties.{is_strict_at, price_at_place, newly_broken_at, new_toll, new_price}

-- a rule is strictly broken at the column that comes after a prefix
abbrev pub is_strictly_broken_at_end : Exercise → List (List Cell) → List Cell → ℕ → Bool
is_strictly_broken_at_end ex p col rule = list_any
    (λ voices. is_broken rule ex voices (p ++ col ∷ []) (length p) && is_strict_at rule ex voices (length p)) all_sets

-- the prices of its relaxed breaks there
abbrev pub prices_at_end : Exercise → List (List Cell) → List Cell → ℕ → ℕ
prices_at_end ex p col rule = sum_by (λ voices. if is_broken rule ex voices (p ++ col ∷ []) (length p)
    then price_at_place rule ex voices (length p) else 0) all_sets

-- what a toll costs there, by its weight, and what those cost that are settled at once
abbrev pub toll_at_end : Exercise → Sheet → List (List Cell) → List Cell → ℕ → ℕ
toll_at_end ex sheet p col toll = cost_at toll ex (p ++ col ∷ []) (length p) * weight_of sheet toll

abbrev pub tolls_at_end : Exercise → Sheet → List (List Cell) → List Cell → ℕ
tolls_at_end ex sheet p col = sum_by (toll_at_end ex sheet p col) tolls_at_once

-- some of so many places passes, from the first one on; the sum over them
abbrev pub any_among : ℕ → ℕ → (ℕ → Bool) → Bool
any_among first count test = any_below (λ k. test (first + k)) count

abbrev pub sum_among : ℕ → ℕ → (ℕ → ℕ) → ℕ
sum_among first count f = sum_below (λ k. f (first + k)) count

-- the sets of voices of a rule's form
abbrev pub sets_of_rule : ℕ → Exercise → List ℕ
sets_of_rule rule ex = sets_of (rule_at rule).form ex.voices

-- the column settles a strict break of a rule at a place, for one of these sets of voices
abbrev pub newly_broken_for : List ℕ → ℕ → Exercise → List (List Cell) → List Cell → ℕ → Bool
newly_broken_for sets rule ex p col i = list_any (λ voices. newly_broken_at rule ex voices p col i) sets

-- the column settles a strict break of a late rule at one of its places
abbrev pub breaks_late : Exercise → List (List Cell) → List Cell → ℕ → Bool
breaks_late ex p col rule =
    any_among ((rule_at rule).first ex (length p)) ((rule_at rule).count ex (length p))
    (newly_broken_for (sets_of_rule rule ex) rule ex p col)

-- the rule is a late one, and the column settles a strict break of it at one of its places
abbrev pub breaks_some_late : Exercise → List (List Cell) → List Cell → ℕ → Bool
breaks_some_late ex p col r = list_any (λ rule. breaks_late ex p col rule && r == rule) late_rules

-- what the column settles of a late rule's prices at its places
abbrev pub prices_late : Exercise → List (List Cell) → List Cell → ℕ → ℕ
prices_late ex p col rule =
    sum_among ((rule_at rule).first ex (length p)) ((rule_at rule).count ex (length p))
    (λ i. sum_by (new_price ex p col i rule) (sets_of_rule rule ex))

-- what the column settles of a late toll at the toll's places
abbrev pub toll_late : Exercise → Sheet → List (List Cell) → List Cell → ℕ → ℕ
toll_late ex sheet p col toll =
    sum_among ((toll_at toll).first ex (length p)) ((toll_at toll).count ex (length p))
    (λ i. new_toll ex sheet p col i toll)
