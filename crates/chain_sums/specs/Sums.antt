-- The least sum over the chains that go on behind a column, as one number: it is the least of what
-- each column that may come next costs together with the least sum behind it.
use Rattle.std.specs.Prelude.{ℕ, zero, suc, Bool, List, [], ◌∷◌, length, map, min, Option, Some, None, if◌then◌else◌}
use Rattle.std.specs.List.{list_all, range_with_len}
use Rattle.fux_grid.specs.declared.cell.Cell.{Cell}
use Rattle.fux_grid.specs.Cells.{cell_in, cell_follows}
use Rattle.chain_sums.specs.Chains.{Chains, cells_of, plus}

-- the lesser one; where one is none, the other
abbrev pub lesser : Option ℕ → Option ℕ → Option ℕ
lesser None b = b
lesser (Some x) None = Some x
lesser (Some x) (Some y) = Some (min x y)

-- the least of a list
abbrev pub least_in : List (Option ℕ) → Option ℕ
least_in [] = None
least_in (x ∷ xs) = lesser x (least_in xs)

-- each cell of a column may follow the one of its voice
abbrev pub column_follows : List Cell → List Cell → Bool
column_follows before next =
    list_all (λ v. cell_follows (cell_in before v) (cell_in next v)) (range_with_len 0 (length next))

-- what a column costs behind another or behind none, together with a sum behind it; none where it
-- doesn't follow
abbrev pub sum_behind : Chains → ℕ → Option (List Cell) → List Cell → Option ℕ → Option ℕ
sum_behind c i before d rest = if column_follows (cells_of before) d then plus (c.cost i before d) rest else None

-- the least sum over chains of so many columns, from a place on, behind a column or behind none
abbrev pub least_sum : Chains → ℕ → ℕ → Option (List Cell) → Option ℕ
least_sum c zero i before = Some 0
least_sum c (suc count) i before =
    least_in (map (λ d. sum_behind c i before d (least_sum c count (suc i) (Some d))) (c.menu i))
