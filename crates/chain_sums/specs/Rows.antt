-- Rows of least sums, and the least over one of them.
use Rattle.std.specs.Prelude.{◌≡◌, ℕ, suc, ◌+◌, ◌^◌, ◌<◌, ◌≤◌, List, [], length, slice_index_or, Option, Some, None, IfSome}
use Rattle.fux_grid.specs.declared.cell.Cell.{Cell}
use Rattle.fux_grid.specs.Columns.{ColumnFollows}
use Rattle.chain_sums.specs.Chains.{Chains, IsLeast, cells_of}

-- a row has beside each column of a menu the least sum behind it
pub record IsRow (c : Chains) (i : ℕ) (row : List (Option ℕ)) : Type 0 where
  pub beside : length row ≡ length (c.menu i)
  pub least : (k : ℕ) → k < length (c.menu i)
      → IsLeast c (suc i) (Some (slice_index_or (c.menu i) k [])) (slice_index_or row k None)

-- a column costs so much, together with a sum behind it
pub record IsSumOf (c : Chains) (i : ℕ) (before : Option (List Cell)) (d : List Cell) (rest : Option ℕ) (sum : ℕ) : Type
    0 where
  pub follows : ColumnFollows (cells_of before) d
  pub own : ℕ
  pub is_own : c.cost i before d ≡ Some own
  pub behind : ℕ
  pub is_rest : rest ≡ Some behind
  pub both : own + behind ≡ sum

-- the column of a menu with this number costs so much, together with the sum that a row has beside
-- it
abbrev pub IsSumAt : Chains → ℕ → Option (List Cell) → List (Option ℕ) → ℕ → ℕ → Type 0
IsSumAt c i before row k = IsSumOf c i before (slice_index_or (c.menu i) k []) (slice_index_or row k None)

-- and so does one of the first so many columns
abbrev pub IsSumWithin : Chains → ℕ → Option (List Cell) → List (Option ℕ) → ℕ → ℕ → Type 0
IsSumWithin c i before row count sum = (k : ℕ) × (k < count) × IsSumAt c i before row k sum

-- a sum is at most so much, where there is one
abbrev pub IsAtMost : ℕ → Option ℕ → Type 0
IsAtMost most sum = IfSome sum (λ x. x ≤ most)

-- and so is each of a row
abbrev pub AllAtMost : ℕ → List (Option ℕ) → Type 0
AllAtMost most row = (k : ℕ) → k < length row → IsAtMost most (slice_index_or row k None)

-- a sum is above another by one cost at most
abbrev pub IsOneCostAbove : Option ℕ → Option ℕ → Type 0
IsOneCostAbove other sum = (most : ℕ) → IsAtMost most other → IsAtMost (most + 2 ^ 53) sum

-- a sum is above those of a row by one cost at most
abbrev pub IsOneCostAboveRow : List (Option ℕ) → Option ℕ → Type 0
IsOneCostAboveRow row sum = (most : ℕ) → AllAtMost most row → IsAtMost (most + 2 ^ 53) sum

-- and so is each sum of another row
abbrev pub AreOneCostAbove : List (Option ℕ) → List (Option ℕ) → Type 0
AreOneCostAbove row more = (most : ℕ) → AllAtMost most row → AllAtMost (most + 2 ^ 53) more
