-- What tails are those of.
use Rattle.std.specs.Prelude.{◌≡◌, ℕ, List, [], ◌∷◌, ◌++◌, Option, None, length, slice_index_or}
use Rattle.cert_text.specs.declared.potential.Potential.{Potential}
use Rattle.cert_law.specs.Cases.{Matter}
use Rattle.cert_law.specs.Tails.{tail_of}
use Rattle.floor_tables.specs.Tables.{AreNarrow, Task}
use Rattle.fux_grid.specs.declared.cell.Cell.{Cell}
use Rattle.fux_grid.specs.declared.exercise.Exercise.{Exercise}
use Rattle.fux_grid.specs.Menus.{menu_of}
use Rattle.penalty_sheet.specs.declared.sheet.Sheet.{Sheet}

-- an exercise and a sheet, and the entries, where some are stated
pub record Basis : Type 0 where
  pub exercise : Exercise
  pub sheet : Sheet
  pub stated : Option (List Potential)

-- that of tables: nothing is stated
abbrev pub basis_of : Task → Basis
basis_of task = record { exercise = task.exercise; sheet = task.sheet; stated = None }

-- the tail of a prefix
abbrev pub tail_by : Basis → List (List Cell) → Option ℕ
tail_by basis p = tail_of basis.exercise basis.sheet basis.stated p

-- the tail of each prefix that ends at a place with the column of this number
abbrev pub IsTailBehind : Basis → ℕ → ℕ → Option ℕ → Type 0
IsTailBehind basis i k tail =
    (p : List (List Cell)) → length p ≡ i
    → tail ≡ tail_by basis (p ++ slice_index_or (menu_of basis.exercise i) k [] ∷ [])

-- the tails are those of the exercise and the sheet, and no menu is too wide
pub record HasTails (t : Matter) (basis : Basis) : Type 0 where
  pub exercise : basis.exercise ≡ t.exercise
  pub sheet : basis.sheet ≡ t.sheet
  pub narrow : AreNarrow t.exercise
