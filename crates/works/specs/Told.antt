-- What is told of what is sought: of the best, or of the one of a number, in order of penalty and
-- then of reading.
use Rattle.std.specs.Prelude.{◌≡◌, ℕ, ◌+◌, List, [], ◌∷◌, ◌++◌, ◌==◌, Option, Some, None, Ok, Err, codes, if◌then◌else◌}
use Rattle.std.specs.Fmt.{decimal}
use Rattle.fux_grid.specs.declared.cell.Cell.{Cell}
use Rattle.fux_grid.specs.declared.exercise.Exercise.{Exercise}
use Rattle.fux_grid.specs.Exercises.{HasCantus}
use Rattle.fux_text.specs.Lines.{setting_text}
use Rattle.penalty_sheet.specs.declared.sheet.Sheet.{Sheet}
use Rattle.species_space.specs.Trees.{settings}
use Rattle.tree_search.specs.NthQuests as nth
use Rattle.tree_search.specs.Quests.{IsBestWithin, IsLeastOver, IsNothingWithin, Quest}
use Rattle.works.specs.declared.work.Verdict.{Verdict}
use Rattle.works.specs.Composed.{IsComposition, TellsAs, TellsBest, TellsNone, none_line, penalty_line}
use Rattle.works.specs.Searched.{RefusesWidth}
use Rattle.works.specs.Texts.{Work}

-- the line that tells how many there are
abbrev pub count_line : ℕ → List ℕ
count_line count = codes "only " ++ decimal count ++ 10 ∷ []

-- the same, or that there is none
abbrev pub only_line : ℕ → List ℕ
only_line count = if count == 0 then none_line else count_line count

-- the text tells how many there are, as this has it
pub record TellsOnly (AreOnly : ℕ → Type 0) (text : List ℕ) : Type 0 where
  pub count : ℕ
  pub only : AreOnly count
  pub spelled : text ≡ only_line count

-- the bytes are written of what a path leads to and of its penalty, which are as this tells
pub record TellsPath {E : Type 0} (there : List ℕ → List E) (IsWritten : List ℕ → ℕ → List ℕ → Type 0)
    (AreIt : List E → ℕ → Type 0) (bytes : List ℕ) : Type 0 where
  pub path : List ℕ
  pub penalty : ℕ
  pub it : AreIt (there path) penalty
  pub written : IsWritten path penalty bytes

-- the bytes are the exercise with a setting over the cantus as it is, and a penalty
abbrev pub IsSettingText : Exercise → List (List Cell) → ℕ → List ℕ → Type 0
IsSettingText ex setting penalty bytes =
    HasCantus ex setting × (bytes ≡ setting_text ex setting ++ penalty_line penalty)

-- what bytes tell of what is asked for, by their verdict. Of the best: it and its penalty, whose
-- load is within the budget; that nothing is lawful, where all that is live is within it; or the
-- least number whose load is above the budget. The same of the one before which so many come, with
-- how many there are where these are fewer
abbrev pub TellsSought : {E : Type 0} → Quest E → Option ℕ → ℕ → ((List E → ℕ → Type 0) → List ℕ → Type 0) → Verdict
    → List ℕ → Type 0
TellsSought quest None budget Tells =
    TellsAs (Tells (IsBestWithin quest budget)) (TellsNone (IsNothingWithin quest budget)) (IsLeastOver quest budget)
TellsSought quest (Some before) budget Tells =
    TellsAs (Tells (nth.IsNthWithin quest (before + 1) budget)) (TellsOnly (nth.IsOnlyWithin quest (before + 1) budget))
    (nth.IsLeastOver quest (before + 1) budget)

-- `compose` with this budget makes this of an exercise, over the sheet in use, where the setting is
-- asked for before which so many come
abbrev pub ComposesNth : ℕ → ℕ → Sheet → Exercise → Work → Type 0
ComposesNth before budget sheet ex (Ok output) =
    IsComposition (TellsSought (settings ex sheet) (Some before) budget (TellsBest ex)) ex output
ComposesNth before budget sheet ex (Err refusal) = RefusesWidth ex refusal
