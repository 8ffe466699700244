-- What `fromsmf` makes of a MIDI file.
use Rattle.std.specs.Prelude.{◌≡◌, ℕ, List, Ok, Err}
use Rattle.fux_grid.specs.declared.exercise.Exercise.{Exercise}
use Rattle.fux_grid.specs.declared.exercise.Head.{Head}
use Rattle.fux_text.specs.Lines.{note_text}
use Rattle.smf_score.specs.Reading.{IsReading}
use Rattle.works.specs.declared.refusal.Refusal.{Refusal}
use Rattle.works.specs.declared.refusal.Refusal.TheVariants.{Midi}
use Rattle.works.specs.declared.work.Output.{Output}
use Rattle.works.specs.declared.work.Verdict.TheVariants.{Favorable}
use Rattle.works.specs.Texts.{Work}

-- an output is the note text of the exercise that a file is, with its setting
pub record IsNoteText (head : Head) (file : List ℕ) (output : Output) : Type 0 where
  pub exercise : Exercise
  pub reading : IsReading head file (Ok exercise)
  pub bytes : output.bytes ≡ note_text exercise exercise.setting
  pub verdict : output.verdict ≡ Favorable

-- a refusal of a file that is no exercise: it tells the first fault
abbrev pub RefusesMidi : Head → List ℕ → Refusal → Type 0
RefusesMidi head file (Midi fault) = IsReading head file (Err fault)
RefusesMidi head file _ = ⊥

-- `fromsmf` makes this of the bytes of a file
abbrev pub ReadsMidi : Head → List ℕ → Work → Type 0
ReadsMidi head file (Ok output) = IsNoteText head file output
ReadsMidi head file (Err refusal) = RefusesMidi head file refusal
