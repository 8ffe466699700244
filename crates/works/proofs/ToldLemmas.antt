-- A path that was found leads to the one of a number (`nth_at`). What is told of what a path leads
-- to is told of what is sought there (`told_as`): of what was found (`of_found`), of a setting
-- (`of_setting`), and of one of a space (`of_space`). A setting is a whole score of its exercise
-- (`is_whole`) and has its cantus (`has_cantus`).
use Rattle.std.proofs.Common.{◌≡◌, ℕ, List, Option, Some, None, length, ap, subst, sym, ◌∙◌}
use Rattle.fux_grid.specs.declared.cell.Cell.{Cell}
use Rattle.fux_grid.specs.declared.exercise.Exercise.{Exercise}
use Rattle.fux_grid.specs.Exercises.{HasCantus, IsComplete, IsValid, columns_in}
use Rattle.fux_grid.specs.Grid.{Grid}
use Rattle.floor_tables.specs.Tables.{Task}
use Rattle.penalty_sheet.specs.declared.sheet.Sheet.{Sheet}
use Rattle.rule_law.specs.Prefixes.{IsSetting}
use Rattle.species_space.specs.Paths.{prefix_at}
use Rattle.tree_search.specs.NthQuests.{IsNthWithin, LeadsToNth}
use Rattle.tree_search.specs.Numbered.{IfFound}
use Rattle.tree_search.specs.Quests.{Quest}
use Rattle.tree_search.specs.declared.outcome.Numbered.{Numbered}
use Rattle.tree_search.specs.declared.outcome.Numbered.TheVariants.{Found}
use Rattle.works.specs.declared.work.Verdict.{Verdict}
use Rattle.works.specs.declared.work.Verdict.TheVariants.{Favorable, Unfavorable, Spent}
use Rattle.works.specs.Composed.{TellsBest, TellsFound}
use Rattle.works.specs.Told.{IsSettingText, TellsPath, TellsSought}
use Rattle.works.proofs.BestLemmas.{prefix_has_cantus}

pub nth_at : {E : Type 0} (quest : Quest E) (live : List ℕ → Option ℕ) (there : List ℕ → List E) (nth budget : ℕ)
    {outcome : Numbered} {found : List ℕ} {value : ℕ} (path : List ℕ)
    → outcome ≡ Found found value → IfFound outcome (LeadsToNth quest live there nth budget) → path ≡ found
    → IsNthWithin quest nth budget (there path) value
nth_at quest live there nth budget {value} path is leads at =
    (subst (λ (p : List ℕ). LeadsToNth quest live there nth budget p value) (sym at)
    (subst (λ (o : Numbered). IfFound o (LeadsToNth quest live there nth budget)) is leads)).it

pub told_as : {E : Type 0} (quest : Quest E) (before : Option ℕ) (budget : ℕ)
    (Tells Others : (List E → ℕ → Type 0) → List ℕ → Type 0)
    → ((AreIt : List E → ℕ → Type 0) (bytes : List ℕ) → Tells AreIt bytes → Others AreIt bytes)
    → (verdict : Verdict) (bytes : List ℕ) → TellsSought quest before budget Tells verdict bytes
    → TellsSought quest before budget Others verdict bytes
told_as quest None budget Tells Others tells Favorable bytes told = tells _ bytes told
told_as quest None budget Tells Others tells Unfavorable bytes told = told
told_as quest None budget Tells Others tells Spent bytes told = told
told_as quest (Some before) budget Tells Others tells Favorable bytes told = tells _ bytes told
told_as quest (Some before) budget Tells Others tells Unfavorable bytes told = told
told_as quest (Some before) budget Tells Others tells Spent bytes told = told

pub of_found : {E : Type 0} (there : List ℕ → List E) (written : List E → ℕ → List ℕ) (AreIt : List E → ℕ → Type 0)
    (bytes : List ℕ)
    → TellsPath there (λ path penalty text. text ≡ written (there path) penalty) AreIt bytes
    → TellsFound AreIt written bytes
of_found there written AreIt bytes told =
    record { found = there told.path; penalty = told.penalty; best = told.it; spelled = told.written }

pub of_setting : (there : List ℕ → List (List Cell)) (ex : Exercise) (AreIt : List (List Cell) → ℕ → Type 0)
    (bytes : List ℕ)
    → TellsPath there (λ path. IsSettingText ex (there path)) AreIt bytes → TellsBest ex AreIt bytes
of_setting there ex AreIt bytes told = record {
  setting = there told.path;
  penalty = told.penalty;
  best = told.it;
  cantus = told.written.0;
  spelled = told.written.1;
}

pub of_space : (quest_of : Exercise → Sheet → Quest (List Cell)) (space : Task) (ex own : Exercise) (sheet : Sheet)
    (before : Option ℕ) (budget : ℕ) (verdict : Verdict) (bytes : List ℕ)
    → space ≡ record { exercise = own; sheet = sheet }
    → TellsSought (quest_of space.exercise space.sheet) before budget
    (TellsPath (prefix_at space.exercise) (λ path. IsSettingText ex (prefix_at space.exercise path))) verdict bytes
    → TellsSought (quest_of own sheet) before budget (TellsBest ex) verdict bytes
of_space quest_of space ex own sheet before budget verdict bytes is told =
    told_as (quest_of own sheet) before budget _ (TellsBest ex) (of_setting (prefix_at own) ex) verdict bytes
    (subst (λ (s : Task). TellsSought (quest_of s.exercise s.sheet) before budget
    (TellsPath (prefix_at s.exercise) (λ path. IsSettingText ex (prefix_at s.exercise path))) verdict bytes) is told)

module _ (ex own : Exercise) (same : own ≡ ex) (s : List (List Cell)) (setting : IsSetting own s) where
  pub is_whole : (score : Grid) → score ≡ record { voices = own.voices; columns = s } → IsComplete ex score
  is_whole score is = record {
    voices = ap (λ (g : Grid). g.voices) is ∙ ap (λ (e : Exercise). e.voices) same;
    whole = ap (λ (g : Grid). length g.columns) is ∙ setting.whole ∙ ap (λ (e : Exercise). columns_in e) same;
  }

  pub has_cantus : IsValid ex → HasCantus ex s
  has_cantus valid =
      let its = subst (λ (e : Exercise). IsSetting e s) same setting in
      prefix_has_cantus ex s valid.cantus_there its.prefix
