-- What entries are tested by, and where each stands.
use Rattle.std.specs.Prelude.{◌≡◌, ℕ, suc, ◌+◌, ◌<◌, ◌≤◌, true, List, Option, Some, IsSomeAnd, length, slice_index_or}
use Rattle.cert_check.specs.declared.board.Board.{Board}
use Rattle.cert_check.specs.Menus.{AreMenus}
use Rattle.cert_law.specs.Entries.{AllowsSum, IsTrueBefore, columns_before, entry_of, menu_column, sum_through}
use Rattle.cert_text.specs.declared.potential.Potential.{Potential}
use Rattle.cert_text.specs.declared.potential.Potential.TheVariants.{Least}
use Rattle.chain_sums.specs.Sums.{column_follows}
use Rattle.fux_grid.specs.declared.cell.Cell.{Cell}
use Rattle.fux_grid.specs.declared.exercise.Exercise.{Exercise}
use Rattle.fux_grid.specs.Exercises.{IsValid, columns_in}
use Rattle.fux_grid.specs.Menus.{menu_of}
use Rattle.penalty_sheet.specs.declared.sheet.Sheet.{Sheet}

-- a sum is no less than this one; there is none where this one is none
abbrev pub IsFrom : Option ℕ → Option ℕ → Type 0
IsFrom least sum = (x : ℕ) → sum ≡ Some x → IsSomeAnd least (λ y. y ≤ x)

-- an entry allows each such sum
abbrev pub AllowsFrom : Potential → Option ℕ → Type 0
AllowsFrom entry least = (sum : Option ℕ) → IsFrom least sum → AllowsSum entry sum

-- the sum through a column, whatever stands before it, is no less than this one
abbrev pub IsBound : Exercise → Sheet → List Potential → ℕ → ℕ → Option ℕ → Type 0
IsBound ex sheet entries i k least =
    (before : Option (List Cell)) → IsFrom least (sum_through ex sheet entries i before k)

-- no more than what a column costs by itself and what is stated for it
abbrev pub IsBoundOf : Option ℕ → Option ℕ → Option ℕ → Type 0
IsBoundOf own stated least = (o n : ℕ) → own ≡ Some o → stated ≡ Some n → IsSomeAnd least (λ y. y ≤ o + n)

-- so it is of the column of a number, counted through all menus
abbrev pub IsBoundAt : Exercise → Sheet → List Potential → ℕ → Option ℕ → Type 0
IsBoundAt ex sheet entries number least =
    (i k : ℕ) → number ≡ columns_before ex i + k → k < length (menu_of ex i) → IsBound ex sheet entries i k least

-- so it is of the first so many numbers
abbrev pub AreBounds : Exercise → Sheet → List Potential → List (Option ℕ) → Type 0
AreBounds ex sheet entries bounds =
    (number : ℕ) (d : Option ℕ) → number < length bounds
    → IsBoundAt ex sheet entries number (slice_index_or bounds number d)

-- the menus are those of the exercise, and no sum is less than its bound
pub record IsBoard (board : Board) : Type 0 where
  pub valid : IsValid board.exercise.now
  pub menus : AreMenus board.exercise.now board.menus.now
  pub bounds : AreBounds board.exercise.now board.sheet.now board.stated.now board.bounds.now

-- the column of a number, counted through all menus, stands at this place and has this number in
-- its menu
pub record IsPlaceOf (ex : Exercise) (number : ℕ) (at : ℕ × ℕ) : Type 0 where
  pub place : at.0 < columns_in ex
  pub within : at.1 < length (menu_of ex at.0)
  pub is : number ≡ columns_before ex at.0 + at.1

-- the entry of the column with a number in the menu of a place is true
pub record IsTrueAt (ex : Exercise) (sheet : Sheet) (entries : List Potential) (i k : ℕ) : Type 0 where
  pub each : suc i < columns_in ex
      → IsTrueBefore ex sheet entries (suc i) (Some (menu_column ex i k)) (entry_of ex entries i k)
  pub last : suc i ≡ columns_in ex → entry_of ex entries i k ≡ Least 0

-- the column of a number is the only one of a place's menu that follows these cells
pub record FollowsAlone (ex : Exercise) (i : ℕ) (before : List Cell) (k : ℕ) : Type 0 where
  pub within : k < length (menu_of ex i)
  pub alone : (j : ℕ) → j < length (menu_of ex i) → column_follows before (menu_column ex i j) ≡ true → j ≡ k
