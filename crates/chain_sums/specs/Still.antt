-- Columns that hold all they sound, and menus of no others.
use Rattle.std.specs.Prelude.{◌≡◌, ℕ, ◌+◌, ◌*◌, ◌^◌, ◌<◌, Bool, true, List, [], Some, length, slice_index_or}
use Rattle.std.specs.List.{list_all}
use Rattle.fux_grid.specs.declared.cell.Cell.{Cell}
use Rattle.fux_grid.specs.Cells.{cell_in, held, is_hold}
use Rattle.chain_sums.specs.Chains.{Chains}
use Rattle.chain_sums.specs.Packed.{packed_cell}

-- each cell of a column holds a note
abbrev pub all_hold : List Cell → Bool
all_hold = list_all is_hold

-- and each of each column
abbrev pub IsStill : List (List Cell) → Type 0
IsStill columns = (k : ℕ) → k < length columns → all_hold (slice_index_or columns k []) ≡ true

-- a column that holds all it sounds costs nothing at a place, behind any column
abbrev pub HoldingIsFree : Chains → ℕ → Type 0
HoldingIsFree c i = (before d : List Cell) → all_hold d ≡ true → c.cost i (Some before) d ≡ Some 0

-- a place has the menu of the next one, where each column holds all it sounds, and costs nothing
pub record GoesOnFreely (c : Chains) (i : ℕ) : Type 0 where
  pub menu : c.menu i ≡ c.menu (i + 1)
  pub still : IsStill (c.menu (i + 1))
  pub free : HoldingIsFree c (i + 1)

-- the number of the column that goes on with all that a column of at most four cells sounds
abbrev pub packed_held : List Cell → ℕ
packed_held col =
    2 ^ 48 * packed_cell (held (cell_in col 0))
    + (2 ^ 32 * packed_cell (held (cell_in col 1)) +
    (2 ^ 16 * packed_cell (held (cell_in col 2)) + packed_cell (held (cell_in col 3))))
