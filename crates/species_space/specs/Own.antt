-- What their own tolls cost the columns of menus, as a space keeps it.
use Rattle.std.specs.Prelude.{◌≡◌, ℕ, ◌<◌, List, [], length, slice_index_or}
use Rattle.fux_grid.specs.declared.cell.Cell.{Cell}
use Rattle.fux_grid.specs.declared.exercise.Exercise.{Exercise}
use Rattle.fux_grid.specs.Exercises.{columns_in}
use Rattle.fux_grid.specs.Menus.{menu_of}
use Rattle.penalty_sheet.specs.declared.sheet.Sheet.{Sheet}
use Rattle.fux_judge.specs.Links.{IsOwnCost}
use Rattle.species_space.specs.declared.own.OwnCosts.{OwnCosts}

-- so much its own tolls cost each column of a menu, nothing behind the last number
abbrev pub AreOwnCosts : Exercise → Sheet → ℕ → List (List Cell) → List ℕ → Type 0
AreOwnCosts ex sheet i menu costs =
    (k : ℕ) → k < length menu → IsOwnCost ex sheet i (slice_index_or menu k []) (slice_index_or costs k 0)

-- they cost none of its columns anything
abbrev pub AreFree : Exercise → Sheet → ℕ → List (List Cell) → Type 0
AreFree ex sheet i menu = (k : ℕ) → k < length menu → IsOwnCost ex sheet i (slice_index_or menu k []) 0

-- each of the first menus has such numbers
abbrev pub KeepOwnCosts : Exercise → Sheet → List OwnCosts → Type 0
KeepOwnCosts ex sheet rows =
    (i : ℕ) (d : OwnCosts) → i < length rows → AreOwnCosts ex sheet i (menu_of ex i) (slice_index_or rows i d).costs.items

-- and all have
pub record AreOwnRows (ex : Exercise) (sheet : Sheet) (rows : List OwnCosts) : Type 0 where
  pub counted : length rows ≡ columns_in ex
  pub kept : KeepOwnCosts ex sheet rows
