-- What `compose` and `best` make of an exercise, over a sheet of weights.
use Rattle.std.specs.Prelude.{◌≡◌, ℕ, List, [], ◌∷◌, ◌++◌, Ok, Err, codes}
use Rattle.std.specs.Fmt.{decimal}
use Rattle.fux_grid.specs.declared.cell.Cell.{Cell}
use Rattle.fux_grid.specs.declared.exercise.Exercise.{Exercise}
use Rattle.fux_grid.specs.Exercises.{HasCantus}
use Rattle.fux_judge.specs.Lawful.{HasNoLawful}
use Rattle.penalty_sheet.specs.declared.sheet.Sheet.{Sheet}
use Rattle.fux_text.specs.Lines.{setting_text}
use Rattle.species_space.specs.Loads.{IsBestWithin, IsLeastOver, IsNothingWithin}
use Rattle.works.specs.declared.searching.Found.{Found}
use Rattle.works.specs.declared.searching.Found.TheVariants as found
use Rattle.works.specs.declared.work.Output.{Output}
use Rattle.works.specs.declared.work.Verdict.{Verdict}
use Rattle.works.specs.declared.work.Verdict.TheVariants.{Favorable, Unfavorable, Spent}
use Rattle.works.specs.Searched.{IsBestOf, IsNarrow, IsSharpBound, RefusesWidth}
use Rattle.works.specs.Texts.{Work}

-- the line that tells a penalty
abbrev pub penalty_line : ℕ → List ℕ
penalty_line penalty = codes "; penalty " ++ decimal penalty ++ 10 ∷ []

-- the line that tells a bound
abbrev pub bound_line : ℕ → List ℕ
bound_line bound = codes "spent, at least " ++ decimal bound ++ 10 ∷ []

-- the line that tells that there is nothing
abbrev pub none_line : List ℕ
none_line = codes "none" ++ 10 ∷ []

-- the text is the exercise with a setting, over the cantus as it is, and the penalty of that, which
-- are best as this tells
pub record TellsBest (ex : Exercise) (AreBest : List (List Cell) → ℕ → Type 0) (text : List ℕ) : Type 0 where
  pub setting : List (List Cell)
  pub penalty : ℕ
  pub best : AreBest setting penalty
  pub cantus : HasCantus ex setting
  pub spelled : text ≡ setting_text ex setting ++ penalty_line penalty

-- the text tells that there is none, as this has it
pub record TellsNone (IsNone : Type 0) (text : List ℕ) : Type 0 where
  pub none : IsNone
  pub spelled : text ≡ none_line

-- the text tells a number that is such a bound
pub record TellsBound (IsTheBound : ℕ → Type 0) (text : List ℕ) : Type 0 where
  pub bound : ℕ
  pub is_bound : IsTheBound bound
  pub spelled : text ≡ bound_line bound

-- the bytes are written of what was found and its penalty, which are best as this tells
pub record TellsFound {E : Type 0} (AreBest : List E → ℕ → Type 0) (written : List E → ℕ → List ℕ) (bytes : List ℕ)
    : Type 0 where
  pub found : List E
  pub penalty : ℕ
  pub best : AreBest found penalty
  pub spelled : bytes ≡ written found penalty

-- what bytes tell of a search, by their verdict: of the best, that there is none, or a number that
-- is such a bound
abbrev pub TellsAs : (List ℕ → Type 0) → (List ℕ → Type 0) → (ℕ → Type 0) → Verdict → List ℕ → Type 0
TellsAs OfBest OfNone IsTheBound Favorable bytes = OfBest bytes
TellsAs OfBest OfNone IsTheBound Unfavorable bytes = OfNone bytes
TellsAs OfBest OfNone IsTheBound Spent bytes = TellsBound IsTheBound bytes

-- the output is the line that tells a bound
abbrev pub IsBoundText : ℕ → Work → Type 0
IsBoundText bound (Ok output) = (output.verdict ≡ Spent) × (output.bytes ≡ bound_line bound)
IsBoundText bound (Err refusal) = ⊥

-- what the text of `compose` tells of an exercise, by its verdict: the best setting, whose load is
-- within the budget; that none is lawful, and all live prefixes are within the budget; or the least
-- number whose load is above the budget
abbrev pub Tells : Exercise → Sheet → ℕ → Verdict → List ℕ → Type 0
Tells ex sheet budget =
    TellsAs (TellsBest ex (IsBestWithin ex sheet budget)) (TellsNone (IsNothingWithin ex sheet budget))
    (IsLeastOver ex sheet budget)

-- what the text of `best` tells: the best setting; that none is lawful; or a number that no lawful
-- setting's penalty is below, where `compose` with the same budget is spent too
abbrev pub TellsSharply : Exercise → Sheet → ℕ → Verdict → List ℕ → Type 0
TellsSharply ex sheet budget =
    TellsAs (TellsBest ex (IsBestOf ex sheet)) (TellsNone (HasNoLawful ex)) (IsSharpBound ex sheet budget)

-- an output on an exercise none of whose menus is too wide, which tells this
pub record IsComposition (Told : Verdict → List ℕ → Type 0) (ex : Exercise) (output : Output) : Type 0 where
  pub narrow : IsNarrow ex
  pub tells : Told output.verdict output.bytes

-- `compose` with this budget makes this of an exercise, over the sheet in use
abbrev pub Composes : ℕ → Sheet → Exercise → Work → Type 0
Composes budget sheet ex (Ok output) = IsComposition (Tells ex sheet budget) ex output
Composes budget sheet ex (Err refusal) = RefusesWidth ex refusal

-- `best` with this budget makes this of an exercise, over the sheet in use
abbrev pub ComposesSharply : ℕ → Sheet → Exercise → Work → Type 0
ComposesSharply budget sheet ex (Ok output) = IsComposition (TellsSharply ex sheet budget) ex output
ComposesSharply budget sheet ex (Err refusal) = RefusesWidth ex refusal

-- what is written of what was found
abbrev pub found_output : Exercise → Found → Output
found_output ex (found.Best score penalty) =
    record { verdict = Favorable; bytes = setting_text ex score.columns ++ penalty_line penalty }
found_output ex found.Nothing = record { verdict = Unfavorable; bytes = none_line }
found_output ex (found.Spent bound) = record { verdict = Spent; bytes = bound_line bound }
