-- Prefixes of settings, and how one goes on.
use Rattle.std.specs.Prelude.{◌≡◌, ℕ, ◌<◌, ◌≤◌, List, [], ◌++◌, length, reverse, slice_index_or}
use Rattle.fux_grid.specs.declared.cell.Cell.{Cell}
use Rattle.fux_grid.specs.declared.exercise.Exercise.{Exercise}
use Rattle.fux_grid.specs.Columns.{HistoryFollows}
use Rattle.fux_grid.specs.Exercises.{columns_in}
use Rattle.fux_grid.specs.Menus.{IsInMenu}
use Rattle.fux_grid.specs.Orderly.{IsOrderly}

-- a prefix: no more columns than the exercise has, each in its menu and following the one before it
pub record IsPrefix (ex : Exercise) (p : List (List Cell)) : Type 0 where
  pub few : length p ≤ columns_in ex
  pub menus : (i : ℕ) → i < length p → IsInMenu ex i (slice_index_or p i [])
  pub follows : HistoryFollows (reverse p)

-- a setting: a prefix that has all columns
pub record IsSetting (ex : Exercise) (s : List (List Cell)) : Type 0 where
  pub prefix : IsPrefix ex s
  pub whole : length s ≡ columns_in ex

-- an orderly prefix that goes on: with the columns behind it, it is a prefix still, orderly or not
pub record GoesOn (ex : Exercise) (p t : List (List Cell)) : Type 0 where
  pub orderly : IsOrderly ex p
  pub longer : IsPrefix ex (p ++ t)
