-- What a space keeps.
use Rattle.std.specs.Prelude.{◌≡◌, ℕ, ◌<◌, IsTrue, List, length, slice_index_or}
use Rattle.fux_grid.specs.declared.exercise.Exercise.{Exercise}
use Rattle.fux_grid.specs.Exercises.{IsValid, columns_in}
use Rattle.fux_grid.specs.Menus.{menu_of}
use Rattle.fux_judge.specs.Late.{SettleNothing}
use Rattle.fux_judge.specs.Still.{IsStillPlace}
use Rattle.floor_tables.specs.Tables.{AreNarrow}
pub use Rattle.floor_tables.specs.Tables.{Task}
use Rattle.species_space.specs.Blocks.{AreBlocksOf, AreUndead, IsCut, columns_seen}
use Rattle.species_space.specs.declared.blocks.BlockMenu.{BlockMenu}
use Rattle.species_space.specs.declared.blocks.MenuView.{MenuView}

-- what is known of the menu of a place: its blocks, of its columns how many are dead after every
-- prefix from them on and which are sound, late rules of which its column settles nothing, and that
-- nothing can begin there, where it is told
pub record IsBlockMenuOf (ex : Exercise) (i : ℕ) (menu : BlockMenu) : Type 0 where
  pub blocks : AreBlocksOf (menu_of ex i) menu.blocks
  pub skip : AreUndead ex i (menu_of ex i) menu.undead.items
  pub idle : SettleNothing ex i menu.idle.bits
  pub still : IsTrue menu.still → IsStillPlace ex i

-- the same of each of the first places
abbrev pub AreMenus : Exercise → List BlockMenu → Type 0
AreMenus ex menus = (i : ℕ) (d : BlockMenu) → i < length menus → IsBlockMenuOf ex i (slice_index_or menus i d)

-- the columns of a place's menu, with what is known of them
pub record IsViewOf (ex : Exercise) (i : ℕ) (menu : MenuView) : Type 0 where
  pub columns : columns_seen menu ≡ menu_of ex i
  pub cut : IsCut menu
  pub skip : AreUndead ex i (columns_seen menu) menu.undead.now

-- a valid exercise whose menus aren't too wide, with what is known of all of them
pub record IsReady (ex : Exercise) (menus : List BlockMenu) : Type 0 where
  pub valid : IsValid ex
  pub narrow : AreNarrow ex
  pub counted : length menus ≡ columns_in ex
  pub kept : AreMenus ex menus
