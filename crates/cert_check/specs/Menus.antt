-- The menus of an exercise, as they are kept.
use Rattle.std.specs.Prelude.{◌≡◌, ℕ, ◌+◌, ◌*◌, ◌<◌, ◌≤◌, Bool, true, [], ◌∷◌, ◌++◌, length, slice_index_or}
use Rattle.std.specs.declared.vec.Vec.{Vec}
use Rattle.std.specs.declared.alloc.Global.{Global}
use Rattle.arrayvec.specs.ArrayVec.{ArrayVec}
use Rattle.cert_check.specs.declared.menus.Menus.{Menus}
use Rattle.cert_law.specs.Entries.{columns_before}
use Rattle.chain_sums.specs.Still.{IsStill}
use Rattle.fux_grid.specs.declared.cell.Cell.{Cell}
use Rattle.fux_grid.specs.declared.exercise.Exercise.{Exercise}
use Rattle.fux_grid.specs.Exercises.{columns_in}
use Rattle.fux_grid.specs.Grid.{items_of}
use Rattle.fux_grid.specs.Menus.{menu_of}

-- the columns of one menu
abbrev pub Columns : Type 0
Columns = Vec (ArrayVec Cell) Global

-- these are the columns of a place's menu, which isn't too wide
pub record HasMenu (ex : Exercise) (i : ℕ) (columns : Columns) : Type 0 where
  pub value : items_of columns.items ≡ menu_of ex i
  pub narrow : length (menu_of ex i) ≤ 8192

-- the menus of the first so many places are kept
pub record HaveMenus (ex : Exercise) (count : ℕ) (menus : Menus) : Type 0 where
  pub whole : length menus.columns.items ≡ count
  pub counted : length menus.before.items ≡ count
  pub each : (i : ℕ) (d : Columns) → i < count → items_of (slice_index_or menus.columns.items i d).items ≡ menu_of ex i
  pub narrow : (i : ℕ) → i < count → length (menu_of ex i) ≤ 8192
  pub before : (i d : ℕ) → i < count → slice_index_or menus.before.items i d ≡ columns_before ex i
  pub flagged : length menus.still.items ≡ count
  pub still : (i : ℕ) (d : Bool) → i < count → slice_index_or menus.still.items i d ≡ true → IsStill (menu_of ex i)
  pub total : menus.total ≡ columns_before ex count
  pub few : menus.total ≤ count * 8192

-- those of all places are
abbrev pub AreMenus : Exercise → Menus → Type 0
AreMenus ex menus = HaveMenus ex (columns_in ex) menus

-- one menu more, and whether it is known to be still
pub record AddsMenu (old : Menus) (menu : Columns) (new : Menus) : Type 0 where
  pub columns : new.columns.items ≡ old.columns.items ++ menu ∷ []
  pub before : new.before.items ≡ old.before.items ++ old.total ∷ []
  pub total : new.total ≡ old.total + length menu.items
  pub flag : Bool
  pub flags : new.still.items ≡ old.still.items ++ flag ∷ []
  pub still : flag ≡ true → IsStill (items_of menu.items)
