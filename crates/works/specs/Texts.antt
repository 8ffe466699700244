-- The text of an exercise, and work on it.
use Rattle.std.specs.Prelude.{◌≡◌, ℕ, ◌⊎◌, List, Result, Ok, Err}
use Rattle.fux_grid.specs.declared.exercise.Exercise.{Exercise}
use Rattle.fux_text.specs.Texts.{HasFault}
use Rattle.class_marker.specs.Markings.{IsTheText}
use Rattle.works.specs.declared.refusal.Refusal.{Refusal}
use Rattle.works.specs.declared.refusal.Refusal.TheVariants as refusal
use Rattle.works.specs.declared.work.Output.{Output}
use Rattle.works.specs.declared.work.Stop.{Stop}
use Rattle.works.specs.declared.work.Stop.TheVariants.{Refused, Memory}

-- what a command makes: an output, or a refusal
abbrev pub Work : Type 0
Work = Result Output Refusal

-- a refusal of bytes that are the text of no exercise: it tells their first fault
abbrev pub RefusesText : List ℕ → Refusal → Type 0
RefusesText bytes (refusal.Text kind line column) = HasFault bytes kind line column
RefusesText bytes _ = ⊥

-- the exercise of a text, or a refusal of it, or memory is wanting
abbrev pub ReadsText : List ℕ → Result Exercise Stop → Type 0
ReadsText bytes (Ok ex) = IsTheText bytes ex
ReadsText bytes (Err (Refused refusal)) = RefusesText bytes refusal
ReadsText bytes (Err Memory) = Unit {0}

-- work on the exercise whose text these bytes are
pub record OnExercise (Made : Exercise → Work → Type 0) (bytes : List ℕ) (work : Work) : Type 0 where
  pub exercise : Exercise
  pub text : IsTheText bytes exercise
  pub made : Made exercise work

-- work that refuses these bytes
pub record OnNoText (bytes : List ℕ) (work : Work) : Type 0 where
  pub refusal : Refusal
  pub is : work ≡ Err refusal
  pub cause : RefusesText bytes refusal

-- work on the exercise of a text, where these bytes are one
abbrev pub OnText : (Exercise → Work → Type 0) → List ℕ → Work → Type 0
OnText Made bytes work = OnExercise Made bytes work ⊎ OnNoText bytes work
