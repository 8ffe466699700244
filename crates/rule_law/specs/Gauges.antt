-- What gauges weigh: the whole line of a free voice, and how much the columns still ahead may
-- change.
use Rattle.std.specs.Prelude.{◌≡◌, ℕ, ◌-◌, ◌<◌, ◌≤◌, Bool, List, ◌∷◌, Contains, count_by, length}
use Rattle.std.specs.List.{list_any, range_with_len}
use Rattle.fux_grid.specs.declared.cell.Cell.{Cell}
use Rattle.fux_grid.specs.declared.exercise.Exercise.{Exercise}
use Rattle.fux_grid.specs.Cells.{cell_in}
use Rattle.fux_grid.specs.Exercises.{IsFree, columns_in}
use Rattle.fux_grid.specs.Menus.{menu_of}
use Rattle.rule_law.specs.Terms.{starts}

-- some column of the menu at a place has a start of the voice
abbrev pub menu_starts : Exercise → ℕ → ℕ → Bool
menu_starts ex v i = list_any (λ col. starts (cell_in col v)) (menu_of ex i)

-- the columns of the exercise from column i on
abbrev pub columns_from : Exercise → ℕ → List ℕ
columns_from ex i = range_with_len i (columns_in ex - i)

-- at how many of them the menu has a start of the voice
abbrev pub starts_ahead : Exercise → ℕ → ℕ → ℕ
starts_ahead ex v i = count_by (menu_starts ex v) (columns_from ex i)

-- a value of the line of a free voice, and the least that each line that begins so may come to
abbrev pub LineValue : Type 0
LineValue = List Cell → ℕ

abbrev pub LeastValue : Type 0
LeastValue = Exercise → ℕ → List Cell → ℕ

-- a line goes on by the cell that a column of the next menu has
pub record IsNextCell (ex : Exercise) (v : ℕ) (cells : List Cell) (col : List Cell) : Type 0 where
  pub free : IsFree ex v
  pub room : length cells < columns_in ex
  pub in_menu : Contains (menu_of ex (length cells)) col

-- the least value never falls
abbrev pub NeverFalls : LeastValue → Type 0
NeverFalls least =
    (ex : Exercise) (v : ℕ) (cells col : List Cell)
    → IsNextCell ex v cells col → least ex v cells ≤ least ex v (cell_in col v ∷ cells)

-- of a line of all columns it is the value
abbrev pub EndsAtValue : LeastValue → LineValue → Type 0
EndsAtValue least value =
    (ex : Exercise) (v : ℕ) (cells : List Cell) → length cells ≡ columns_in ex → least ex v cells ≡ value cells

-- a gauge: its number, the value of a line, and the least that each line that begins so may come to
pub record GaugeRow : Type 0 where
  pub number : ℕ
  pub value : LineValue
  pub least : LeastValue

-- what is owed of it
pub record KeepsGaugeLaws (it : GaugeRow) : Type 0 where
  pub grows : NeverFalls it.least
  pub ends : EndsAtValue it.least it.value
