-- Menus, as the tables keep them.
use Rattle.std.specs.Prelude.{◌≡◌, ℕ, ◌<◌, ◌≤◌, List, [], length, map, slice_index_or, Option, IsSomeAnd}
use Rattle.std.specs.List.{Contains}
use Rattle.fux_grid.specs.declared.cell.Cell.{Cell}
use Rattle.fux_grid.specs.Grid.{items_of}
use Rattle.chain_sums.specs.Chains.{AreFull}
use Rattle.chain_sums.specs.Packed.{packed}
use Rattle.chain_sums.specs.declared.menu.Menu.{Menu}

-- no number is below an earlier one
abbrev pub IsRising : List ℕ → Type 0
IsRising numbers = (i j : ℕ) → i ≤ j → j < length numbers → slice_index_or numbers i 0 ≤ slice_index_or numbers j 0

-- the columns of a menu
abbrev pub columns_of : Menu → List (List Cell)
columns_of menu = items_of menu.columns.items

-- a menu has these columns
abbrev pub IsMenuOf : List (List Cell) → Menu → Type 0
IsMenuOf columns menu = columns_of menu ≡ columns

-- its numbers are those of its columns, and rise
pub record IsPacked (voices : ℕ) (menu : Menu) : Type 0 where
  pub numbers : menu.numbers.items ≡ map packed (columns_of menu)
  pub rising : IsRising menu.numbers.items
  pub full : AreFull voices (columns_of menu)
  pub few : voices ≤ 4

-- a column stands in a menu under a number
abbrev pub IsNumberOf : Menu → List Cell → ℕ → Type 0
IsNumberOf menu d k = (k < length menu.columns.items) × (slice_index_or (columns_of menu) k [] ≡ d)

-- where a packed menu has a column, this is its number
abbrev pub FindsColumn : Menu → List Cell → Option ℕ → Type 0
FindsColumn menu d found =
    (voices : ℕ) → IsPacked voices menu → Contains (columns_of menu) d → IsSomeAnd found (IsNumberOf menu d)

-- two packed menus have the same columns
abbrev pub HaveSameColumns : Menu → Menu → Type 0
HaveSameColumns menu other =
    (voices : ℕ) → IsPacked voices menu → IsPacked voices other → columns_of menu ≡ columns_of other
