-- What the rules and tolls read at the column that comes after a prefix.
use Rattle.std.specs.Prelude.{◌≡◌, ℕ, ◌&&◌, ◌==◌, ◌+◌, ◌*◌, ◌<◌, Bool, List, [], ◌∷◌, ◌++◌, reverse, length}
use Rattle.std.specs.List.{list_any, sum_by}
use Rattle.fux_grid.specs.declared.cell.Cell.{Cell}
use Rattle.fux_grid.specs.Columns.{newest_column}
use Rattle.fux_grid.specs.Exercises.{IsValid, columns_in}
use Rattle.rule_law.specs.Nearby.{previous_pitches}
use Rattle.penalty_sheet.specs.declared.sheet.Sheet.{Sheet}
use Rattle.penalty_sheet.specs.Weights.{weight_of}
use Rattle.fux_judge.specs.declared.moment.Moment.{Moment}
use Rattle.fux_judge.specs.Charges.{tolls_of_pairs}
use Rattle.fux_judge.specs.Links.{others_at_once}
use Rattle.fux_judge.specs.Rules.{all_sets, is_broken, cost_at, rules_at_once}
use Rattle.fux_judge.specs.Penalties.{is_strict_at, price_read}
use Rattle.fux_judge.specs.States.{IsStateOf}

-- the moment can be read: its exercise is valid, and its column is one of a setting
pub record IsReadable (m : Moment) : Type 0 where
  pub valid : IsValid m.exercise.now
  pub place : m.state.now.newest.len < columns_in m.exercise.now

-- what comes before the column is a prefix: the state is its own, and what was taken from that
pub record IsAfter (p : List (List Cell)) (m : Moment) : Type 0 where
  pub state : IsStateOf m.exercise.now p m.state.now
  pub before : m.before.now ≡ newest_column (reverse p)
  pub latest : m.latest.pitches ≡ previous_pitches (reverse p)

-- the prefix with the moment's column
abbrev pub with_column : List (List Cell) → Moment → List (List Cell)
with_column p m = p ++ m.column.now ∷ []

-- a rule is broken at the column for a set of voices
abbrev pub is_broken_then : ℕ → ℕ → List (List Cell) → Moment → Bool
is_broken_then rule voices p m = is_broken rule m.exercise.now voices (with_column p m) (length p)

-- it is strictly broken for the set
abbrev pub is_strict_break_then : ℕ → ℕ → List (List Cell) → Moment → Bool
is_strict_break_then rule voices p m =
    is_broken_then rule voices p m && is_strict_at rule m.exercise.now voices (length p)

-- so it is for one of the sets
abbrev pub is_strictly_broken_then : List ℕ → ℕ → List (List Cell) → Moment → Bool
is_strictly_broken_then sets rule p m = list_any (λ voices. is_strict_break_then rule voices p m) sets

-- the rule is one of these, and is strictly broken at the column
abbrev pub breaks_one_of : List ℕ → List (List Cell) → Moment → ℕ → Bool
breaks_one_of rules p m r = list_any (λ rule. is_strictly_broken_then all_sets rule p m && r == rule) rules

-- the price of a relaxed break there, and the sum over the sets
abbrev pub price_then : ℕ → ℕ → List (List Cell) → Moment → ℕ
price_then rule voices p m = price_read rule m.exercise.now voices (with_column p m) (length p)

abbrev pub prices_then : List ℕ → ℕ → List (List Cell) → Moment → ℕ
prices_then sets rule p m = sum_by (λ voices. price_then rule voices p m) sets

-- what a toll costs there, by its weight
abbrev pub toll_then : Sheet → List (List Cell) → Moment → ℕ → ℕ
toll_then sheet p m toll = cost_at toll m.exercise.now (with_column p m) (length p) * weight_of sheet toll

-- what the tolls of pairs cost there together
abbrev pub pairs_then : Sheet → List (List Cell) → Moment → ℕ
pairs_then sheet p m = sum_by (toll_then sheet p m) tolls_of_pairs

-- what the column pays of the tolls and rules that are settled at once, but for its own tolls
abbrev pub paid_at_once : Sheet → List (List Cell) → Moment → ℕ
paid_at_once sheet p m =
    sum_by (toll_then sheet p m) others_at_once + sum_by (λ rule. prices_then all_sets rule p m) rules_at_once
