-- Chains of columns to the end of a setting, and the least sum of their costs.
use Rattle.std.specs.Prelude.{◌≡◌, ℕ, suc, ◌+◌, ◌^◌, ◌≤◌, List, [], ◌∷◌, length, Option, Some, None, option_map, IsSomeAnd, ⊤}
use Rattle.std.specs.List.{All, Contains}
use Rattle.std.specs.Borrow.{Bor}
use Rattle.arrayvec.specs.ArrayVec.{ArrayVec}
use Rattle.fux_grid.specs.declared.cell.Cell.{Cell}
use Rattle.fux_grid.specs.Columns.{ColumnFollows}

-- what chains are made of: how many voices and places there are, which columns may stand at each
-- place, and what a column costs there behind another or behind none, where the two may be
-- neighbors
pub record Chains : Type 0 where
  pub voices : ℕ
  pub places : ℕ
  pub menu : ℕ → List (List Cell)
  pub cost : ℕ → Option (List Cell) → List Cell → Option ℕ

-- the cells of a column, none where it is lacking
abbrev pub cells_of : Option (List Cell) → List Cell
cells_of None = []
cells_of (Some col) = col

-- each column stands in the menu of its place, the first one of the list at the given place, and
-- follows the one before it
abbrev pub AreLinked : Chains → ℕ → Option (List Cell) → List (List Cell) → Type 0
AreLinked c i before [] = ⊤
AreLinked c i before (d ∷ chain) =
    Contains (c.menu i) d × ColumnFollows (cells_of before) d × AreLinked c (suc i) (Some d) chain

-- two costs together; none where one of them is none
abbrev pub plus : Option ℕ → Option ℕ → Option ℕ
plus None b = None
plus (Some x) None = None
plus (Some x) (Some y) = Some (x + y)

-- what the columns of a list cost together; none where two of them may not be neighbors
abbrev pub chain_sum : Chains → ℕ → Option (List Cell) → List (List Cell) → Option ℕ
chain_sum c i before [] = Some 0
chain_sum c i before (d ∷ chain) = plus (c.cost i before d) (chain_sum c (suc i) (Some d) chain)

-- a chain from a place to the last one has this sum
pub record HasSum (c : Chains) (i : ℕ) (before : Option (List Cell)) (sum : ℕ) : Type 0 where
  pub chain : List (List Cell)
  pub linked : AreLinked c i before chain
  pub whole : i + length chain ≡ c.places
  pub is : chain_sum c i before chain ≡ Some sum

-- the least of some numbers, none where there is no such number
pub record IsLeastOf (IsOne : ℕ → Type 0) (least : Option ℕ) : Type 0 where
  pub reached : (x : ℕ) → least ≡ Some x → IsOne x
  pub lowest : (x : ℕ) → IsOne x → IsSomeAnd least (λ y. y ≤ x)

-- the least sum over the chains that begin at a place, behind a column or behind none
abbrev pub IsLeast : Chains → ℕ → Option (List Cell) → Option ℕ → Type 0
IsLeast c i before = IsLeastOf (HasSum c i before)

-- the cells of a column that may be lacking
abbrev pub given : Option (Bor (ArrayVec Cell)) → Option (List Cell)
given prev = option_map (λ col. col.now.items) prev

-- a column costs at least so much at a place, whatever stands before it; there is no such cost only
-- where it may stand behind no column
abbrev pub IsLeastCost : Chains → ℕ → List Cell → Option ℕ → Type 0
IsLeastCost c i d own = (before : Option (List Cell)) (x : ℕ) → c.cost i before d ≡ Some x → IsSomeAnd own (λ y. y ≤ x)

-- a cost is there, and this is it
abbrev pub IsKnown : Option ℕ → ℕ → Type 0
IsKnown cost known = (cost ≡ Some known) × (known ≤ 2 ^ 52)

-- each column of a menu has a cell for each voice
abbrev pub AreFull : ℕ → List (List Cell) → Type 0
AreFull voices columns = All (λ col. length col ≡ voices) columns
