-- The tables of an exercise, and why there are none.
use Rattle.std.specs.Prelude.{◌≡◌, ℕ, suc, ◌<◌, ◌≤◌, List, Option, Some, None, length, ⊤}
use Rattle.fux_grid.specs.declared.cell.Cell.{Cell}
use Rattle.fux_grid.specs.declared.exercise.Exercise.{Exercise}
use Rattle.fux_grid.specs.declared.exercise.Place.{Place}
use Rattle.fux_grid.specs.Exercises.{bar_of, columns_in, slot_of}
use Rattle.fux_grid.specs.Menus.{menu_of}
use Rattle.penalty_sheet.specs.declared.sheet.Sheet.{Sheet}
use Rattle.chain_sums.specs.Chains.{IsLeast}
use Rattle.chain_sums.specs.declared.tables.TableFault.{TableFault}
use Rattle.chain_sums.specs.declared.tables.TableFault.TheVariants.{TooWide, Memory}
use Rattle.floor_tables.specs.Floors.{chains_of}

-- what the tables of an exercise are made of
pub record Task : Type 0 where
  pub exercise : Exercise
  pub sheet : Sheet

-- the least sum over the chains that go on behind a column of place i
abbrev pub IsRest : Exercise → Sheet → ℕ → List Cell → Option ℕ → Type 0
IsRest ex sheet i col = IsLeast (chains_of ex sheet) (suc i) (Some col)

-- the least sum over all chains
abbrev pub IsStart : Exercise → Sheet → Option ℕ → Type 0
IsStart ex sheet = IsLeast (chains_of ex sheet) 0 None

-- no menu is too wide
abbrev pub AreNarrow : Exercise → Type 0
AreNarrow ex = (i : ℕ) → i < columns_in ex → length (menu_of ex i) ≤ 8192

-- the place of the first menu that is too wide, and how many columns it has
pub record IsTooWide (ex : Exercise) (place : Place) (count : ℕ) : Type 0 where
  pub column : ℕ
  pub bar : place.bar ≡ bar_of column
  pub slot : place.slot ≡ slot_of column
  pub within : column < columns_in ex
  pub width : count ≡ length (menu_of ex column)
  pub wide : 8192 < count
  pub first : (earlier : ℕ) → earlier < column → length (menu_of ex earlier) ≤ 8192

-- a fault about width tells the first menu that is too wide
abbrev pub TellsWidth : Exercise → TableFault → Type 0
TellsWidth ex (TooWide place count) = IsTooWide ex place count
TellsWidth ex Memory = ⊤
