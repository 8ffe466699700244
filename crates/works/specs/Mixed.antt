-- What `mixed` and `markmixed` make of an exercise with the species that are named for its voices.
use Rattle.std.specs.Prelude.{◌≡◌, ℕ, ◌⊎◌, List, Option, Some, Result, Ok, Err}
use Rattle.class_marker.specs.declared.marking.MarkLines.{MarkLines}
use Rattle.class_marker.specs.Markings.{TellsMarks}
use Rattle.fux_grid.specs.declared.exercise.Exercise.{Exercise}
use Rattle.fux_grid.specs.Exercises.{AreSpecies, as_mixed}
use Rattle.fux_grid.specs.Grid.{Grid}
use Rattle.species_space.specs.MixedLoads.{IsBestWithin, IsLeastOver, IsNothingWithin}
use Rattle.species_space.specs.Naming.{AreFreelyNamed, IsFirstMisnamed, all_species_with}
use Rattle.species_space.specs.Trees.{mixed_settings}
use Rattle.tree_search.specs.Quests.{IsOverBudget}
use Rattle.penalty_sheet.specs.declared.sheet.Sheet.{Sheet}
use Rattle.score_marker.specs.Marks.{AreMarks}
use Rattle.command_words.specs.declared.command.MixedJob.{MixedJob}
use Rattle.command_words.specs.declared.command.MixedJob.TheVariants.{Compose, Best, Mark, Weigh, MarkXml, Picture}
use Rattle.fux_judge.specs.Lawful.{BoundsLawful, HasNoLawful}
use Rattle.works.specs.declared.refusal.Refusal.{Refusal}
use Rattle.works.specs.declared.refusal.Refusal.TheVariants.{With}
use Rattle.works.specs.declared.work.Stop.{Stop}
use Rattle.works.specs.declared.work.Stop.TheVariants.{Refused, Memory}
use Rattle.works.specs.declared.work.Verdict.{Verdict}
use Rattle.works.specs.Charged.{Weighs}
use Rattle.works.specs.Composed.{IsComposition, TellsAs, TellsBest, TellsNone}
use Rattle.works.specs.Marked.{RefusesNoSetting, TellsLines}
use Rattle.works.specs.Rendered.{MarksPicture, MarksXml}
use Rattle.works.specs.Searched.{IsBestOf, RefusesWidth}
use Rattle.works.specs.Sheets.{OnSheet}
use Rattle.works.specs.Texts.{OnText, Work}

-- what a text tells of an exercise and the mixed one, by its verdict: the best setting of the mixed
-- one, over the cantus as it is, whose load is within the budget; that no setting of it is lawful,
-- and all live prefixes are within the budget; or the least number whose load is above the budget,
-- which isn't enough for the search
abbrev pub TellsMixed : Exercise → Exercise → Sheet → ℕ → Verdict → List ℕ → Type 0
TellsMixed ex mixed sheet budget =
    TellsAs (TellsBest ex (IsBestWithin mixed sheet budget)) (TellsNone (IsNothingWithin mixed sheet budget))
    (IsLeastOver mixed sheet budget)

-- `mixed` with this budget makes this of an exercise and the mixed one, over the sheet in use
abbrev pub ComposesMixed : ℕ → Sheet → Exercise → Exercise → Work → Type 0
ComposesMixed budget sheet ex mixed (Ok output) = IsComposition (TellsMixed ex mixed sheet budget) mixed output
ComposesMixed budget sheet ex mixed (Err refusal) = RefusesWidth mixed refusal

-- a number that no lawful setting's penalty is below; and a budget that isn't enough for the load of
-- the least penalty, or where nothing is lawful, for all that is live, so that `mixed` is spent by
-- it too
pub record IsMixedBound (mixed : Exercise) (sheet : Sheet) (budget bound : ℕ) : Type 0 where
  pub reached : BoundsLawful mixed sheet bound
  pub over : IsOverBudget (mixed_settings mixed sheet) budget

-- what a text tells by sharper floors: the best setting of the mixed exercise, over the cantus as it
-- is; that no setting of it is lawful; or such a number
abbrev pub TellsMixedSharply : Exercise → Exercise → Sheet → ℕ → Verdict → List ℕ → Type 0
TellsMixedSharply ex mixed sheet budget =
    TellsAs (TellsBest ex (IsBestOf mixed sheet)) (TellsNone (HasNoLawful mixed)) (IsMixedBound mixed sheet budget)

-- `mixed --best` with this budget makes this of an exercise and the mixed one, over the sheet in use
abbrev pub ComposesMixedSharply : ℕ → Sheet → Exercise → Exercise → Work → Type 0
ComposesMixedSharply budget sheet ex mixed (Ok output) =
    IsComposition (TellsMixedSharply ex mixed sheet budget) mixed output
ComposesMixedSharply budget sheet ex mixed (Err refusal) = RefusesWidth mixed refusal

-- these lines tell the marks that the mixed exercise has for the exercise's setting
pub record TellsMixedScore (ex mixed : Exercise) (lines : MarkLines) : Type 0 where
  pub score : Grid
  pub given : ex.setting ≡ Some score
  pub told : TellsMarks mixed (AreMarks mixed score.columns) lines

-- `markmixed` makes this of an exercise and the mixed one
abbrev pub MarksMixed : Exercise → Exercise → Work → Type 0
MarksMixed ex mixed (Ok output) = TellsLines (TellsMixedScore ex mixed) output
MarksMixed ex mixed (Err refusal) = RefusesNoSetting ex refusal

-- a job makes this of an exercise and the mixed one, over the sheet in use
abbrev pub MakesOfMixed : MixedJob → Sheet → Exercise → Exercise → Work → Type 0
MakesOfMixed (Compose budget) sheet ex mixed = ComposesMixed budget sheet ex mixed
MakesOfMixed (Best budget) sheet ex mixed = ComposesMixedSharply budget sheet ex mixed
MakesOfMixed Mark sheet ex mixed = MarksMixed ex mixed
MakesOfMixed (Weigh against) sheet ex mixed = Weighs against sheet ex mixed
MakesOfMixed MarkXml sheet ex mixed = MarksXml ex mixed
MakesOfMixed Picture sheet ex mixed = MarksPicture ex mixed

-- a refusal of an exercise of which a voice is named that may not be: it tells the lowest one
abbrev pub RefusesNaming : Exercise → List (Option ℕ) → Refusal → Type 0
RefusesNaming ex named (With voice) = IsFirstMisnamed ex named voice
RefusesNaming ex named _ = ⊥

-- the species of each voice, where these are named; or a refusal, or memory is wanting
abbrev pub NamesSpecies : Exercise → List (Option ℕ) → Result (List ℕ) Stop → Type 0
NamesSpecies ex named (Ok species) =
    AreFreelyNamed ex named × (species ≡ all_species_with ex named) × AreSpecies ex species
NamesSpecies ex named (Err (Refused refusal)) = RefusesNaming ex named refusal
NamesSpecies ex named (Err Memory) = Unit {0}

-- work on the exercise whose voices have the species that are named, and else keep theirs
pub record OnNamed (Made : Exercise → Work → Type 0) (named : List (Option ℕ)) (ex : Exercise) (work : Work) : Type 0 where
  pub free : AreFreelyNamed ex named
  pub made : Made (as_mixed ex (all_species_with ex named)) work

-- work that refuses the names
pub record OnMisnamed (named : List (Option ℕ)) (ex : Exercise) (work : Work) : Type 0 where
  pub refusal : Refusal
  pub is : work ≡ Err refusal
  pub cause : RefusesNaming ex named refusal

-- work on an exercise with these species, where they may be named
abbrev pub OnNames : (Exercise → Work → Type 0) → List (Option ℕ) → Exercise → Work → Type 0
OnNames Made named ex work = OnNamed Made named ex work ⊎ OnMisnamed named ex work

-- a job makes this of the text of an exercise with the species that are named, and of the file of a
-- sheet where one is given
abbrev pub MakesMixed : List (Option ℕ) → MixedJob → List (List ℕ) → List ℕ → Work → Type 0
MakesMixed named job sheets text =
    OnText (λ ex. OnNames (λ mixed. OnSheet (λ sheet. MakesOfMixed job sheet ex mixed) sheets) named ex) text
