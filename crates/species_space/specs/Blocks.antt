-- Menus in blocks, over which voices keep their cells.
use Rattle.std.specs.Prelude.{◌≡◌, ℕ, ◌*◌, ◌/◌, ◌<◌, ◌≤◌, Bool, true, false, not, List, [], All, IsTrue, length, slice_index_or, take}
use Rattle.fux_pitch.specs.Pitch.{same_pitch}
use Rattle.fux_grid.specs.declared.cell.Cell.{Cell}
use Rattle.fux_grid.specs.declared.cell.Cell.TheVariants.{Rest, Hold, Start}
use Rattle.fux_grid.specs.declared.exercise.Exercise.{Exercise}
use Rattle.fux_grid.specs.Cells.{cell_in, is_hold}
use Rattle.fux_grid.specs.Columns.{ColumnFollows}
use Rattle.fux_grid.specs.Grid.{items_of}
use Rattle.fux_grid.specs.Menus.{IsAscending}
use Rattle.fux_judge.specs.Always.{IsAlwaysDead, IsSound}
use Rattle.species_space.specs.declared.blocks.Blocks.{Blocks}
use Rattle.species_space.specs.declared.blocks.MenuView.{MenuView}

-- the cells are of one kind and pitch
abbrev pub same_cell : Cell → Cell → Bool
same_cell Rest Rest = true
same_cell Rest (Hold q) = false
same_cell Rest (Start q) = false
same_cell (Hold p) Rest = false
same_cell (Hold p) (Hold q) = same_pitch p q
same_cell (Hold p) (Start q) = false
same_cell (Start p) Rest = false
same_cell (Start p) (Hold q) = false
same_cell (Start p) (Start q) = same_pitch p q

-- in each column a voice has the cell that it has in the first column of the column's block; blocks
-- have this length
abbrev pub KeepsCell : List (List Cell) → ℕ → ℕ → Type 0
KeepsCell menu v size = (k : ℕ) → k < length menu → cell_in (slice_index_or menu k []) v
    ≡ cell_in (slice_index_or menu (k / size * size) []) v

-- each cell of a column is a hold
abbrev pub IsOnlyHolds : List Cell → Type 0
IsOnlyHolds = All (λ c. IsTrue (is_hold c))

-- each of the first columns of a menu is such
abbrev pub AreHeldFirst : List (List Cell) → ℕ → Type 0
AreHeldFirst menu held = (k : ℕ) → k < held → k < length menu → IsOnlyHolds (slice_index_or menu k [])

-- no cell of a column is a hold
abbrev pub IsWithoutHolds : List Cell → Type 0
IsWithoutHolds = All (λ c. IsTrue (not (is_hold c)))

-- all columns have as many cells
abbrev pub HasOneWidth : List (List Cell) → Type 0
HasOneWidth menu = (voices : ℕ) × All (λ col. length col ≡ voices) menu

-- the blocks of a menu
pub record AreBlocksOf (menu : List (List Cell)) (blocks : Blocks) : Type 0 where
  pub few : length menu ≤ 8192
  pub order : IsAscending menu
  pub full : HasOneWidth menu
  pub some : (v : ℕ) → v < 4 → 1 ≤ slice_index_or blocks.lengths v 0
  pub kept : (v : ℕ) → v < 4 → KeepsCell menu v (slice_index_or blocks.lengths v 0)
  pub holds : IsTrue blocks.only_holds → All IsOnlyHolds menu
  pub no_holds : IsTrue blocks.without_holds → All IsWithoutHolds menu
  pub held : AreHeldFirst menu blocks.held

-- the columns that are looked at
abbrev pub columns_seen : MenuView → List (List Cell)
columns_seen menu = items_of menu.columns.now

-- they are cut into these blocks
abbrev pub IsCut : MenuView → Type 0
IsCut menu = AreBlocksOf (columns_seen menu) menu.blocks.now

-- from a number on up to this end all numbers are of one block
pub record IsBlockEnd (k size end : ℕ) : Type 0 where
  pub onward : k < end
  pub one_block : (j : ℕ) → k ≤ j → j < end → j / size ≡ k / size

-- in a menu of holds, the column of this number may follow
abbrev pub IsHeldNext : MenuView → List Cell → ℕ → Type 0
IsHeldNext menu before k =
    (k < length (columns_seen menu)) × IsTrue menu.blocks.now.only_holds
    × ColumnFollows before (slice_index_or (columns_seen menu) k [])

-- the first column of a menu, from a number on, that may follow; the menu's length where there is
-- none
pub record IsNext (menu : List (List Cell)) (before : List Cell) (from next : ℕ) : Type 0 where
  pub onward : from ≤ next
  pub within : next ≤ length menu
  pub follows : next < length menu → ColumnFollows before (slice_index_or menu next [])
  pub passed : (k : ℕ) → from ≤ k → k < next → ColumnFollows before (slice_index_or menu k []) → ⊥

-- from a number on up to another no column may follow
abbrev pub ArePassedOver : List (List Cell) → List Cell → ℕ → ℕ → Type 0
ArePassedOver menu before from to =
    (k : ℕ) → from ≤ k → k < to → ColumnFollows before (slice_index_or menu k []) → ⊥

-- from one number up to another no column of a menu may follow
abbrev pub AreStrays : List (List Cell) → List Cell → ℕ → ℕ → Type 0
AreStrays menu before from to = (k : ℕ) → from ≤ k → k < to → k < length menu
    → ColumnFollows before (slice_index_or menu k []) → ⊥

-- from a number on up to this end, the columns have the same cells in so many of the lowest voices
pub record Agree (menu : List (List Cell)) (voices k end : ℕ) : Type 0 where
  pub onward : k < end
  pub within : end ≤ length menu
  pub cells : (j : ℕ) → k ≤ j → j < end → take voices (slice_index_or menu j [])
      ≡ take voices (slice_index_or menu k [])

-- from one number up to another all columns of a menu are dead after every prefix
abbrev pub AreAlwaysDead : Exercise → ℕ → List (List Cell) → ℕ → ℕ → Type 0
AreAlwaysDead ex i menu from to = (j : ℕ) → from ≤ j → j < to → IsAlwaysDead ex i (slice_index_or menu j [])

-- a list has this number at a place
abbrev pub IsNumberAt : List ℕ → ℕ → ℕ → Type 0
IsNumberAt numbers k number = (k < length numbers) × (slice_index_or numbers k 0 ≡ number)

-- no number of a list is higher than this one
abbrev pub AreWithin : List ℕ → ℕ → Type 0
AreWithin numbers most = (k : ℕ) → k < length numbers → slice_index_or numbers k 0 ≤ most

-- each number of a list is that of a column from its place on, before which all columns are dead so
pub record SkipDead (ex : Exercise) (i : ℕ) (menu : List (List Cell)) (numbers : List ℕ) : Type 0 where
  pub within : AreWithin numbers (length menu)
  pub dead : (k : ℕ) → k < length numbers → AreAlwaysDead ex i menu k (slice_index_or numbers k 0)

-- at this place a list has no later number
abbrev pub IsUnskipped : List ℕ → ℕ → Type 0
IsUnskipped numbers k = k < length numbers → slice_index_or numbers k 0 ≤ k

-- and each column that has no later number is sound
pub record AreUndead (ex : Exercise) (i : ℕ) (menu : List (List Cell)) (numbers : List ℕ) : Type 0 where
  pub skip : SkipDead ex i menu numbers
  pub sound : (k : ℕ) → k < length menu → IsUnskipped numbers k → IsSound ex i (slice_index_or menu k [])

-- all columns of a menu are sound
abbrev pub AreSound : Exercise → ℕ → List (List Cell) → Type 0
AreSound ex i menu = (k : ℕ) → k < length menu → IsSound ex i (slice_index_or menu k [])

-- a column that doesn't follow, or is dead after every prefix
abbrev pub StraysOrDies : Exercise → ℕ → List Cell → List Cell → Type 0
StraysOrDies ex i before col = ColumnFollows before col → IsAlwaysDead ex i col

-- each column of a menu from one number up to another doesn't follow, or is dead, wherever the
-- menu's numbers skip dead columns
abbrev pub PassesDead : MenuView → List Cell → ℕ → ℕ → Type 0
PassesDead menu before from to =
    (ex : Exercise) (i : ℕ) → SkipDead ex i (columns_seen menu) menu.undead.now
    → (k : ℕ) → from ≤ k → k < to → StraysOrDies ex i before (slice_index_or (columns_seen menu) k [])

-- two columns have the same cells in so many of the lowest voices
abbrev pub AreAlike : ℕ → List Cell → List Cell → Type 0
AreAlike n col other = (v : ℕ) → v < n → v < length col → cell_in col v ≡ cell_in other v
