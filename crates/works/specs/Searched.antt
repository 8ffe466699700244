-- What a search for the best setting of an exercise finds, over a sheet of weights.
use Rattle.std.specs.Prelude.{◌≡◌, ℕ, ◌<◌, ◌≤◌, List, Result, Ok, Err, length}
use Rattle.cert_text.specs.declared.answers.Form.{Form}
use Rattle.cert_text.specs.declared.answers.Form.TheVariants.{First, Second, Third}
use Rattle.fux_grid.specs.declared.cell.Cell.{Cell}
use Rattle.fux_grid.specs.declared.exercise.Exercise.{Exercise}
use Rattle.fux_grid.specs.Exercises.{HasCantus, IsComplete, columns_in}
use Rattle.fux_grid.specs.Grid.{Grid}
use Rattle.fux_grid.specs.Menus.{menu_of}
use Rattle.penalty_sheet.specs.declared.sheet.Sheet.{Sheet}
use Rattle.penalty_sheet.specs.Weights.{default_weights}
use Rattle.fux_judge.specs.Lawful.{BoundsLawful, HasNoLawful}
use Rattle.fux_judge.specs.Penalties.{penalty_of}
use Rattle.species_space.specs.Loads.{IsBest, IsBestWithin, IsLeastOver, IsNothingWithin, IsOverBudget}
use Rattle.species_space.specs.Paths.{live_at, prefix_at}
use Rattle.tree_search.specs.Answer.{IsFirstLeast}
use Rattle.tree_search.specs.declared.outcome.Outcome.{Outcome}
use Rattle.tree_search.specs.declared.outcome.Outcome.TheVariants as outcome
use Rattle.floor_tables.specs.Tables.{IsTooWide, Task}
use Rattle.works.specs.declared.refusal.Refusal.{Refusal}
use Rattle.works.specs.declared.refusal.Refusal.TheVariants.{TooWide}
use Rattle.works.specs.declared.searching.Found.{Found}
use Rattle.works.specs.declared.searching.Found.TheVariants.{Best, Nothing, Spent}
use Rattle.works.specs.declared.work.Stop.{Stop}
use Rattle.works.specs.declared.work.Stop.TheVariants.{Refused, Memory}

-- the sheet that counts where none is given
abbrev pub usual_sheet : Sheet
usual_sheet = record { weights = default_weights }

-- the best setting, with its penalty
pub record IsBestOf (ex : Exercise) (sheet : Sheet) (s : List (List Cell)) (penalty : ℕ) : Type 0 where
  pub best : IsBest ex sheet s
  pub charged : penalty ≡ penalty_of ex sheet s

-- a setting over the cantus as it is, with its penalty, which are best as this tells
pub record IsBestFound (ex : Exercise) (AreBest : List (List Cell) → ℕ → Type 0) (score : Grid) (penalty : ℕ) : Type 0
  where
    pub best : AreBest score.columns penalty
    pub cantus : HasCantus ex score.columns
    pub complete : IsComplete ex score

-- a number that no lawful setting's penalty is below, and that isn't below the bound which
-- `compose` tells with this budget
pub record IsRaised (ex : Exercise) (sheet : Sheet) (budget bound : ℕ) : Type 0 where
  pub reached : BoundsLawful ex sheet bound
  pub no_less : (usual : ℕ) → IsLeastOver ex sheet budget usual → usual ≤ bound

-- such a number; and a budget that isn't enough for the load of the least penalty, or where nothing
-- is lawful, for all live prefixes, so that `compose` is spent by it too
pub record IsSharpBound (ex : Exercise) (sheet : Sheet) (budget bound : ℕ) : Type 0 where
  pub raised : IsRaised ex sheet budget bound
  pub over : IsOverBudget ex sheet budget

-- what was found is so, and just within the budget
abbrev pub IsFound : Exercise → Sheet → ℕ → Found → Type 0
IsFound ex sheet budget (Best score penalty) = IsBestFound ex (IsBestWithin ex sheet budget) score penalty
IsFound ex sheet budget Nothing = IsNothingWithin ex sheet budget
IsFound ex sheet budget (Spent bound) = IsLeastOver ex sheet budget bound

-- what was found by sharper floors is so, whatever the budget, which is spent only where that of
-- `compose` would be
abbrev pub IsFoundSharply : Exercise → Sheet → ℕ → Found → Type 0
IsFoundSharply ex sheet budget (Best score penalty) = IsBestFound ex (IsBestOf ex sheet) score penalty
IsFoundSharply ex sheet budget Nothing = HasNoLawful ex
IsFoundSharply ex sheet budget (Spent bound) = IsSharpBound ex sheet budget bound

-- ---- the search that a form of a certificate asks for, which is by sharper floors for the third

-- it finds this best setting, with its penalty
abbrev pub IsBestFor : Form → Exercise → Sheet → ℕ → List (List Cell) → ℕ → Type 0
IsBestFor First ex sheet budget = IsBestWithin ex sheet budget
IsBestFor Second ex sheet budget = IsBestWithin ex sheet budget
IsBestFor Third ex sheet budget = IsBestOf ex sheet

-- it finds that no setting is lawful
abbrev pub IsNothingFor : Form → Exercise → Sheet → ℕ → Type 0
IsNothingFor First ex sheet budget = IsNothingWithin ex sheet budget
IsNothingFor Second ex sheet budget = IsNothingWithin ex sheet budget
IsNothingFor Third ex sheet budget = HasNoLawful ex

-- it tells this bound where the budget is spent
abbrev pub IsBoundFor : Form → Exercise → Sheet → ℕ → ℕ → Type 0
IsBoundFor First ex sheet budget = IsLeastOver ex sheet budget
IsBoundFor Second ex sheet budget = IsLeastOver ex sheet budget
IsBoundFor Third ex sheet budget = IsSharpBound ex sheet budget

-- what it found is so
abbrev pub IsFoundFor : Form → Exercise → Sheet → ℕ → Found → Type 0
IsFoundFor form ex sheet budget (Best score penalty) =
    IsBestFound ex (IsBestFor form ex sheet budget) score penalty
IsFoundFor form ex sheet budget Nothing = IsNothingFor form ex sheet budget
IsFoundFor form ex sheet budget (Spent bound) = IsBoundFor form ex sheet budget bound

-- ---- what a search answers

-- a setting that was found has the exercise's voices and all columns
abbrev pub HasWholeScore : Exercise → Found → Type 0
HasWholeScore ex (Best score penalty) = IsComplete ex score
HasWholeScore ex _ = Unit {0}

-- no menu of the exercise is too wide
abbrev pub IsNarrow : Exercise → Type 0
IsNarrow ex = (i : ℕ) → i < columns_in ex → length (menu_of ex i) ≤ 8192

-- a refusal of an exercise one of whose menus is too wide
abbrev pub RefusesWidth : Exercise → Refusal → Type 0
RefusesWidth ex (TooWide place count) = IsTooWide ex place count
RefusesWidth ex _ = ⊥

-- the space is that of the exercise by the sheet, and no menu is too wide
abbrev pub IsSpaceOf : Exercise → Sheet → Task → Type 0
IsSpaceOf ex sheet space = (space ≡ record { exercise = ex; sheet = sheet }) × IsNarrow ex

-- why there is no space: a menu is too wide, or memory is wanting
abbrev pub StopsAtWidth : Exercise → Stop → Type 0
StopsAtWidth ex (Refused refusal) = RefusesWidth ex refusal
StopsAtWidth ex Memory = Unit {0}

-- what a search over an exercise answers, where this is told of what it found
abbrev pub Finds : Exercise → (Found → Type 0) → Result Found Stop → Type 0
Finds ex IsSo (Ok found) = IsNarrow ex × IsSo found
Finds ex IsSo (Err (Refused refusal)) = RefusesWidth ex refusal
Finds ex IsSo (Err Memory) = Unit {0}

-- a path leads to the first setting of least penalty
abbrev pub IsFirstPath : Task → List ℕ → ℕ → Type 0
IsFirstPath space = IsFirstLeast (live_at space.exercise space.sheet) (columns_in space.exercise)

-- the score is the setting that a path leads to, over the cantus as it is
pub record IsScoreAt (space : Task) (path : List ℕ) (score : Grid) : Type 0 where
  pub columns : score.columns ≡ prefix_at space.exercise path
  pub cantus : HasCantus space.exercise score.columns
  pub complete : IsComplete space.exercise score

-- what was found is what an outcome tells: for a path the setting that it leads to
abbrev pub IsFoundBy : Task → Outcome → Found → Type 0
IsFoundBy space (outcome.Found path value) (Best score penalty) = IsScoreAt space path score × (penalty ≡ value)
IsFoundBy space outcome.Nothing Nothing = Unit {0}
IsFoundBy space (outcome.Spent least) (Spent bound) = bound ≡ least
IsFoundBy space _ _ = ⊥
