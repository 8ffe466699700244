-- What tables keep of chains.
use Rattle.std.specs.Prelude.{◌≡◌, ℕ, suc, ◌-◌, ◌*◌, ◌^◌, ◌<◌, ◌≤◌, List, [], length, slice_index_or, Option, Some, None, IsSomeAnd, MatchOption}
use Rattle.std.specs.Borrow.{Bor}
use Rattle.std.specs.List.{All, Contains}
use Rattle.fux_grid.specs.declared.cell.Cell.{Cell}
use Rattle.fux_grid.specs.declared.exercise.Place.{Place}
use Rattle.fux_grid.specs.Exercises.{bar_of, slot_of}
use Rattle.chain_sums.specs.declared.menu.Menu.{Menu}
use Rattle.chain_sums.specs.declared.tables.Row.{Row}
use Rattle.chain_sums.specs.declared.tables.Tables.{Tables}
use Rattle.chain_sums.specs.declared.tables.TableFault.{TableFault}
use Rattle.chain_sums.specs.declared.tables.TableFault.TheVariants.{TooWide, Memory}
use Rattle.chain_sums.specs.Chains.{Chains, IsLeast}
use Rattle.chain_sums.specs.Menus.{IsMenuOf, IsPacked, columns_of}
use Rattle.chain_sums.specs.Rows.{AllAtMost, IsAtMost, IsRow}

-- a row has the least sums of a place, beside the menu of the place
pub record IsRowAt (c : Chains) (i : ℕ) (menus : List Menu) (row : Row) : Type 0 where
  pub named : row.menu < length menus
  pub menu : (d : Menu) → IsMenuOf (c.menu i) (slice_index_or menus row.menu d)
  pub sums : IsRow c i row.sums.items
  pub small : AllAtMost ((c.places - 1 - i) * 2 ^ 53) row.sums.items

-- places have these numbers of rows, the last place first
pub record AreRows (c : Chains) (menus : List Menu) (rows : List Row) (places : List ℕ) : Type 0 where
  pub few : length places ≤ c.places
  pub packed : All (IsPacked c.voices) menus
  pub named : All (λ number. number < length rows) places
  pub at : (j : ℕ) (d : Row) → j < length places
      → IsRowAt c (c.places - 1 - j) menus (slice_index_or rows (slice_index_or places j 0) d)

-- items keep their numbers among more of them
pub record KeepNumbers {X : Type 0} (items more : List X) : Type 0 where
  pub longer : length items ≤ length more
  pub same : (k : ℕ) (d : X) → k < length items → slice_index_or more k d ≡ slice_index_or items k d

-- packed menus, with another one or without it, have the columns of that one under a number
pub record HaveColumnsAt (voices : ℕ) (menus more : List Menu) (menu : Menu) (number : ℕ) : Type 0 where
  pub keep : KeepNumbers menus more
  pub packed : All (IsPacked voices) more
  pub within : number < length more
  pub columns : (d : Menu) → IsMenuOf (columns_of menu) (slice_index_or more number d)

-- so they do, where each of them was packed before
abbrev pub IsNumberFor : List Menu → List Menu → Menu → ℕ → Type 0
IsNumberFor menus more menu number =
    (voices : ℕ) → All (IsPacked voices) menus → IsPacked voices menu → HaveColumnsAt voices menus more menu number

-- the menu of a place is kept under a number
pub record IsMenuAt (c : Chains) (i : ℕ) (menus : List Menu) (number : ℕ) : Type 0 where
  pub within : number < length menus
  pub columns : (d : Menu) → IsMenuOf (c.menu i) (slice_index_or menus number d)

-- the row of a place is kept under a number
pub record IsRowNumberOf (c : Chains) (i : ℕ) (menus : List Menu) (rows : List Row) (number : ℕ) : Type 0 where
  pub within : number < length rows
  pub row : (d : Row) → IsRowAt c i menus (slice_index_or rows number d)

-- two rows have the same menu and the same sums
abbrev pub AreSameRows : Row → Row → Type 0
AreSameRows row other = (row.menu ≡ other.menu) × (row.sums.items ≡ other.sums.items)

-- rows, with another one or without it, have the same as that one under a number
pub record HaveRowAt (rows more : List Row) (row : Row) (number : ℕ) : Type 0 where
  pub keep : KeepNumbers rows more
  pub within : number < length more
  pub same : (d : Row) → AreSameRows (slice_index_or more number d) row

-- the tables have a row for each place, and the least sum over all chains
pub record AreTablesOf (c : Chains) (t : Tables) : Type 0 where
  pub whole : length t.places.items ≡ c.places
  pub rows : AreRows c t.menus.items t.rows.items t.places.items
  pub start : IsLeast c 0 None t.start
  pub small_start : IsAtMost (c.places * 2 ^ 53) t.start

-- this row has the number, where any has
abbrev pub IsNumbered : List Row → ℕ → Option (Bor Row) → Type 0
IsNumbered rows number found =
    number < length rows → IsSomeAnd found (λ row. row.now ≡ slice_index_or rows number row.now)

-- whatever chains rows are of: this is the row of the first place that has one; none only where no
-- place has one
abbrev pub IsLatestRow : Tables → Option (Bor Row) → Type 0
IsLatestRow t found =
    (c : Chains) → AreRows c t.menus.items t.rows.items t.places.items → MatchOption found (length t.places.items ≡ 0)
    (λ row. (0 < length t.places.items) × IsRowAt c (c.places - length t.places.items) t.menus.items row.now)

-- whatever chains tables are of: this is the row of a place
abbrev pub IsRowOfPlace : Tables → ℕ → Option (Bor Row) → Type 0
IsRowOfPlace t i found =
    (c : Chains) → AreTablesOf c t → i < c.places → IsSomeAnd found (λ row. IsRowAt c i t.menus.items row.now)

-- this is the least sum behind a column of a place's menu
abbrev pub IsRestBehind : Tables → ℕ → List Cell → Option ℕ → Type 0
IsRestBehind t i d rest =
    (c : Chains) → AreTablesOf c t → i < c.places → Contains (c.menu i) d → IsLeast c (suc i) (Some d) rest

-- this is the least sum behind the column that has a number there
abbrev pub IsRestAt : Tables → ℕ → ℕ → Option ℕ → Type 0
IsRestAt t i k rest =
    (c : Chains) → AreTablesOf c t → i < c.places → k < length (c.menu i)
    → IsLeast c (suc i) (Some (slice_index_or (c.menu i) k [])) rest

-- whatever chains tables are of: two places have the same menu
abbrev pub HaveSameMenu : Tables → ℕ → ℕ → Type 0
HaveSameMenu t i j = (c : Chains) → AreTablesOf c t → i < c.places → j < c.places → c.menu i ≡ c.menu j

-- no menu is too wide
abbrev pub AreNarrow : Chains → Type 0
AreNarrow c = (i : ℕ) → i < c.places → length (c.menu i) ≤ 8192

-- the place of the first menu that is too wide, and how many columns that menu has
pub record IsTooWide (c : Chains) (place : Place) (count : ℕ) : Type 0 where
  pub column : ℕ
  pub bar : place.bar ≡ bar_of column
  pub slot : place.slot ≡ slot_of column
  pub within : column < c.places
  pub width : count ≡ length (c.menu column)
  pub wide : 8192 < count
  pub first : (earlier : ℕ) → earlier < column → length (c.menu earlier) ≤ 8192

-- a fault about width tells the first menu that is too wide; want of memory comes only where there
-- is none
abbrev pub TellsWidth : Chains → TableFault → Type 0
TellsWidth c (TooWide place count) = IsTooWide c place count
TellsWidth c Memory = AreNarrow c
