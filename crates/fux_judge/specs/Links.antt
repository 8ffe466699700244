-- What two neighboring columns decide by themselves.
use Rattle.std.specs.Prelude.{◌≡◌, ◌≤◌, ℕ, ◌+◌, ◌*◌, ◌^◌, Bool, true, false, not, ◌&&◌, List, [], ◌∷◌, map, reverse, Option, Some, None, IsSomeAnd, option_map, if◌then◌else◌}
use Rattle.std.specs.Borrow.{Bor}
use Rattle.std.specs.List.{filter, list_any, sum_by}
use Rattle.arrayvec.specs.ArrayVec.{ArrayVec}
use Rattle.fux_grid.specs.declared.cell.Cell.{Cell}
use Rattle.fux_grid.specs.declared.cell.Cell.TheVariants.{Rest, Hold, Start}
use Rattle.fux_grid.specs.declared.exercise.Exercise.{Exercise}
use Rattle.rule_law.specs.declared.table.Kind.{Kind}
use Rattle.rule_law.specs.declared.table.Kind.TheVariants.{Column, Pair, Window}
pub use Rattle.rule_law.specs.RuleCrates.{is_of_neighbors}
use Rattle.penalty_sheet.specs.declared.sheet.Sheet.{Sheet}
use Rattle.penalty_sheet.specs.Weights.{weight_of}
use Rattle.fux_judge.specs.Penalties.{is_strict_at}
use Rattle.fux_judge.specs.Rules.{all_sets, breaks, costs, late_tolls, rule_at, rules_read, toll_at, tolls_at_once, tolls_read}

-- the column is enough, and the one before it is needed
abbrev pub is_of_column : Kind → Bool
is_of_column Column = true
is_of_column Pair = false
is_of_column Window = false

abbrev pub is_of_pair : Kind → Bool
is_of_pair Column = false
is_of_pair Pair = true
is_of_pair Window = false

-- a rule of a kind, and a toll
abbrev pub is_rule_between : ℕ → Bool
is_rule_between rule = is_of_neighbors (rule_at rule).kind

abbrev pub is_toll_between : ℕ → Bool
is_toll_between toll = is_of_neighbors (toll_at toll).kind

-- those that are read, of a column and of a pair
unfoldable pub column_rules : List ℕ
column_rules = filter (λ rule. is_of_column (rule_at rule).kind) rules_read

unfoldable pub pair_rules : List ℕ
pair_rules = filter (λ rule. is_of_pair (rule_at rule).kind) rules_read

unfoldable pub column_tolls : List ℕ
column_tolls = filter (λ toll. is_of_column (toll_at toll).kind) tolls_read

unfoldable pub pair_tolls : List ℕ
pair_tolls = filter (λ toll. is_of_pair (toll_at toll).kind) tolls_read

-- of the tolls that are settled at once, and of the late ones, those that a column doesn't decide by
-- itself
unfoldable pub others_at_once : List ℕ
others_at_once = filter (λ toll. not (is_of_column (toll_at toll).kind)) tolls_at_once

unfoldable pub other_late_tolls : List ℕ
other_late_tolls = filter (λ toll. not (is_of_column (toll_at toll).kind)) late_tolls

-- the newest column of a history, where there is one
abbrev pub newest_of : List (List Cell) → Option (List Cell)
newest_of [] = None
newest_of (col ∷ cols) = Some col

-- the last column of a prefix
abbrev pub last_column : List (List Cell) → Option (List Cell)
last_column p = newest_of (reverse p)

-- the cells of a column that may be lacking
abbrev pub given : Option (Bor (ArrayVec Cell)) → Option (List Cell)
given prev = option_map (λ col. col.now.items) prev

-- a cell in which what it sounds begins
abbrev pub begun : Cell → Cell
begun Rest = Rest
begun (Hold p) = Start p
begun (Start p) = Start p

-- the column before, as all that is known of what lies behind: the previous note of a voice is the
-- one that it sounds there, and a voice that rests there has none; nothing lies behind the first
-- column
abbrev pub behind_of : Option (List Cell) → List (List Cell)
behind_of None = []
behind_of (Some before) = before ∷ map begun before ∷ []

-- the two break a rule of neighbors for a set of voices, at the place of the second
abbrev pub breaks_between : Exercise → ℕ → Option (List Cell) → List Cell → ℕ → ℕ → Bool
breaks_between ex i before next rule voices =
    is_of_neighbors (rule_at rule).kind && breaks rule ex voices i (behind_of before) next []

-- and strictly, for some set
abbrev pub breaks_strictly : Exercise → ℕ → Option (List Cell) → List Cell → ℕ → Bool
breaks_strictly ex i before next rule =
    list_any (λ voices. breaks_between ex i before next rule voices && is_strict_at rule ex voices i) all_sets

-- what a toll of neighbors costs there
abbrev pub cost_between : Exercise → ℕ → Option (List Cell) → List Cell → ℕ → ℕ
cost_between ex i before next toll =
    if is_of_neighbors (toll_at toll).kind then costs toll ex i (behind_of before) next [] else 0

-- what all of them cost, by weight; none where the two make a strict break
unfoldable pub link_of : Exercise → Sheet → ℕ → Option (List Cell) → List Cell → Option ℕ
link_of ex sheet i before next =
    if list_any (breaks_strictly ex i before next) rules_read then None
    else Some (sum_by (λ toll. cost_between ex i before next toll * weight_of sheet toll) tolls_read)

-- what a toll costs a column, by weight, where nothing stands before it, and what its own tolls do:
-- those of a column
abbrev pub own_toll : Exercise → Sheet → ℕ → List Cell → ℕ → ℕ
own_toll ex sheet i next toll = cost_between ex i None next toll * weight_of sheet toll

abbrev pub own_of : Exercise → Sheet → ℕ → List Cell → ℕ
own_of ex sheet i next = sum_by (own_toll ex sheet i next) column_tolls

-- so much they cost it, which is no great number
pub record IsOwnCost (ex : Exercise) (sheet : Sheet) (i : ℕ) (next : List Cell) (cost : ℕ) : Type 0 where
  pub is : cost ≡ own_of ex sheet i next
  pub small : cost ≤ 2 ^ 24

-- what the rules and tolls of a column say of one, whatever stands before it
unfoldable pub column_of : Exercise → Sheet → ℕ → List Cell → Option ℕ
column_of ex sheet i next =
    if list_any (breaks_strictly ex i None next) column_rules then None else Some (own_of ex sheet i next)

-- whatever column stands before it, what the two cost, if they do, is no less than what is told;
-- and then something is told
abbrev pub IsLeastOfLinks : Exercise → Sheet → ℕ → List Cell → Option ℕ → Type 0
IsLeastOfLinks ex sheet i next told =
    (before : Option (List Cell)) (x : ℕ) → link_of ex sheet i before next ≡ Some x → IsSomeAnd told (λ y. y ≤ x)

-- what the rules and tolls of a pair say of two
unfoldable pub pair_of : Exercise → Sheet → ℕ → Option (List Cell) → List Cell → Option ℕ
pair_of ex sheet i before next =
    if list_any (breaks_strictly ex i before next) pair_rules then None
    else Some (sum_by (λ toll. cost_between ex i before next toll * weight_of sheet toll) pair_tolls)

-- two costs together; none where one of them is none
abbrev pub together : Option ℕ → Option ℕ → Option ℕ
together None b = None
together (Some x) None = None
together (Some x) (Some y) = Some (x + y)
