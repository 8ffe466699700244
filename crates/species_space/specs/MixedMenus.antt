-- The menus that a space keeps.
use Rattle.std.specs.Prelude.{◌≡◌, ℕ, ◌+◌, ◌-◌, ◌<◌, ◌++◌, List, length, slice_index_or}
use Rattle.fux_grid.specs.declared.cell.Cell.{Cell}
use Rattle.fux_grid.specs.declared.exercise.Exercise.{Exercise}
use Rattle.fux_grid.specs.Exercises.{IsValid, columns_in}
use Rattle.fux_grid.specs.Grid.{items_of}
use Rattle.fux_grid.specs.Menus.{menu_of}
use Rattle.fux_judge.specs.Late.{SettleNothing}
use Rattle.floor_tables.specs.Tables.{AreNarrow}
use Rattle.species_space.specs.Blocks.{AreBlocksOf, AreUndead}
use Rattle.species_space.specs.declared.menus.Menu.{Menu}
use Rattle.species_space.specs.declared.menus.Menus.{Menus}
use Rattle.species_space.specs.declared.menus.PlaceMenu.{PlaceMenu}

-- a menu has these columns, and their blocks
pub record IsMenuOf (columns : List (List Cell)) (menu : Menu) : Type 0 where
  pub columns_are : items_of menu.columns.items ≡ columns
  pub blocks_are : AreBlocksOf columns menu.blocks

-- the number at a place is that of the place's menu, and what is known of its columns is so, and of
-- late rules of which its column settles nothing
pub record IsPlaceMenu (ex : Exercise) (menus : List Menu) (i : ℕ) (place : PlaceMenu) : Type 0 where
  pub there : place.menu < length menus
  pub menu : (d : Menu) → IsMenuOf (menu_of ex i) (slice_index_or menus place.menu d)
  pub skip : AreUndead ex i (menu_of ex i) place.undead.items
  pub idle : SettleNothing ex i place.idle.bits

-- the same of each of the first places
abbrev pub ArePlaces : Exercise → List Menu → List PlaceMenu → Type 0
ArePlaces ex menus places =
    (i : ℕ) (d : PlaceMenu) → i < length places → IsPlaceMenu ex menus i (slice_index_or places i d)

-- the last menu is that of the place before, where there is one
abbrev pub IsLatest : Exercise → ℕ → List Menu → Type 0
IsLatest ex i menus =
    (d : Menu) → 0 < i → 0 < length menus → IsMenuOf (menu_of ex (i - 1)) (slice_index_or menus (length menus - 1) d)

-- menus with others behind them, of which the last has this number and is that of a place
pub record IsNumberAt (ex : Exercise) (i : ℕ) (menus more : List Menu) (number : ℕ) : Type 0 where
  pub others : List Menu
  pub kept : more ≡ menus ++ others
  pub last : length more ≡ number + 1
  pub menu : (d : Menu) → IsMenuOf (menu_of ex i) (slice_index_or more number d)

-- the menus of all places
pub record AreMenusOf (ex : Exercise) (menus : Menus) : Type 0 where
  pub counted : length menus.places.items ≡ columns_in ex
  pub kept : ArePlaces ex menus.menus.items menus.places.items

-- a valid exercise none of whose menus is too wide, with all of them
pub record IsReady (ex : Exercise) (menus : Menus) : Type 0 where
  pub valid : IsValid ex
  pub narrow : AreNarrow ex
  pub all : AreMenusOf ex menus
