-- What `explain` makes of a text.
use Rattle.std.specs.Prelude.{◌≡◌, ℕ, ◌⊎◌, List, [], Ok, Err, length, nat_lt, string_bytes, if◌then◌else◌}
use Rattle.fux_grid.specs.declared.exercise.Exercise.{Exercise}
use Rattle.command_words.specs.declared.command.Subject.{Subject}
use Rattle.command_words.specs.declared.command.Subject.TheVariants as subject
use Rattle.class_marker.specs.declared.explanation.Explanation.{Explanation}
use Rattle.class_marker.specs.Explanations.{ExplainsBy, ExplainsCantus, ExplainsExercise}
use Rattle.text_faults.specs.declared.found.FoundFault.{FoundFault}
use Rattle.text_faults.specs.Below.{AreFaults}
use Rattle.text_faults.specs.Explained.{explained_faults}
use Rattle.works.specs.declared.work.Output.{Output}
use Rattle.works.specs.declared.work.Verdict.TheVariants.{Unfavorable}
use Rattle.works.specs.Marked.{marks_verdict}
use Rattle.works.specs.Mixed.{OnNames}
use Rattle.works.specs.Texts.{OnExercise, Work}

-- what is shown of a text: nothing of one that is too long
abbrev pub shown_of : List ℕ → List ℕ
shown_of text = if nat_lt 65536 (length text) then [] else text

-- work that tells the faults of a text of this name
pub record ExplainsFaults (name text : List ℕ) (work : Work) : Type 0 where
  pub faults : List FoundFault
  pub are : AreFaults text faults
  pub output : Output
  pub is : work ≡ Ok output
  pub bytes : output.bytes ≡ explained_faults name (shown_of text) faults
  pub verdict : output.verdict ≡ Unfavorable

-- an output is this explanation
pub record IsExplanation (told : Explanation) (output : Output) : Type 0 where
  pub bytes : output.bytes ≡ string_bytes told.text
  pub verdict : output.verdict ≡ marks_verdict told.has_mark

-- an output is an explanation of which a fact holds
pub record TellsExplanation (Holds : Explanation → Type 0) (output : Output) : Type 0 where
  pub told : Explanation
  pub holds : Holds told
  pub is : IsExplanation told output

-- work that explains so
abbrev pub ExplainsIt : (Explanation → Type 0) → Work → Type 0
ExplainsIt Holds (Ok output) = TellsExplanation Holds output
ExplainsIt Holds (Err refusal) = ⊥

-- work that explains this of an exercise: its setting or what it asks, by its own rules or with the
-- species that are named for other voices, or its cantus firmus alone
abbrev pub ExplainsOf : Subject → Exercise → Work → Type 0
ExplainsOf subject.Setting ex = ExplainsIt (ExplainsExercise ex)
ExplainsOf (subject.Mixed named) ex = OnNames (λ mixed. ExplainsIt (ExplainsBy mixed ex.setting)) named ex
ExplainsOf subject.Cantus ex = ExplainsIt (ExplainsCantus ex)

-- `explain` explains this of the exercise of a text, or each fault of a text that is of none
abbrev pub Explains : Subject → List ℕ → List ℕ → Work → Type 0
Explains subject name text work = OnExercise (ExplainsOf subject) text work ⊎ ExplainsFaults name text work
