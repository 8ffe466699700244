-- What all entries keep.
use Rattle.std.specs.Prelude.{◌≡◌, ◌≤◌, length, vec_capacity}
use Rattle.std.specs.declared.vec.Vec.{Vec}
use Rattle.std.specs.declared.alloc.Global.{Global}
use Rattle.cert_check.specs.declared.board.Board.{Board}
use Rattle.cert_check.specs.declared.menus.Menus.{Menus}
use Rattle.cert_check.specs.Boards.{IsBoard}
use Rattle.cert_check.specs.Listings.{Listing}
use Rattle.cert_check.specs.Menus.{AreMenus}
use Rattle.cert_law.specs.Entries.{entry_count}
use Rattle.cert_text.specs.declared.potential.Potential.{Potential}
use Rattle.fux_grid.specs.declared.exercise.Exercise.{Exercise}
use Rattle.fux_grid.specs.Exercises.{IsValid}

-- the menus are those of the exercise, and there is room for all entries
pub record IsEntries (ex : Exercise) (menus : Menus) (stated : Vec Potential Global) : Type 0 where
  pub valid : IsValid ex
  pub are : AreMenus ex menus
  pub room : vec_capacity stated ≡ entry_count ex
  pub few : length stated.items ≤ entry_count ex

-- they are tested by this
pub record IsBoardOf (it : Listing) (board : Board) : Type 0 where
  pub is : IsBoard board
  pub exercise : board.exercise.now ≡ it.exercise
  pub sheet : board.sheet.now ≡ it.sheet
  pub stated : board.stated.now ≡ it.entries
