-- What `joinsmf` makes of the text of a lesson and of a MIDI file.
use Rattle.std.specs.Prelude.{◌≡◌, ℕ, List, Some, Ok, Err}
use Rattle.fux_grid.specs.declared.exercise.Exercise.{Exercise}
use Rattle.fux_grid.specs.Grid.{Grid}
use Rattle.fux_text.specs.Lines.{note_text}
use Rattle.smf_score.specs.declared.manner.Manner.{Manner}
use Rattle.smf_score.specs.Joining.{IsJoined}
use Rattle.works.specs.declared.refusal.Refusal.{Refusal}
use Rattle.works.specs.declared.refusal.Refusal.TheVariants.{Join}
use Rattle.works.specs.declared.work.Output.{Output}
use Rattle.works.specs.declared.work.Verdict.TheVariants.{Favorable}
use Rattle.works.specs.Answered.{OnLesson}
use Rattle.works.specs.Texts.{Work}

-- an output is the note text of a lesson with the setting that a file is
pub record IsJoinedText (lesson : Exercise) (manner : Manner) (file : List ℕ) (output : Output) : Type 0 where
  pub score : Grid
  pub joined : IsJoined lesson manner file (Ok score)
  pub bytes : output.bytes ≡ note_text lesson (Some score)
  pub verdict : output.verdict ≡ Favorable

-- a refusal of a file that is no answer to the lesson: it tells the first fault
abbrev pub RefusesJoined : Exercise → Manner → List ℕ → Refusal → Type 0
RefusesJoined lesson manner file (Join fault) = IsJoined lesson manner file (Err fault)
RefusesJoined lesson manner file _ = ⊥

-- `joinsmf` makes this of a lesson and of the bytes of a file
abbrev pub Joins : Manner → List ℕ → Exercise → Work → Type 0
Joins manner file lesson (Ok output) = IsJoinedText lesson manner file output
Joins manner file lesson (Err refusal) = RefusesJoined lesson manner file refusal

-- the same of the text of a lesson
abbrev pub JoinsSmf : Manner → List ℕ → List ℕ → Work → Type 0
JoinsSmf manner given file = OnLesson (Joins manner file) given
