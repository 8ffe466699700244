-- The marks that `mark` and `cantus` write.
use Rattle.std.specs.Prelude.{◌≡◌, Bool, true, false, None, Ok, Err, string_bytes}
use Rattle.class_marker.specs.declared.marking.MarkLines.{MarkLines}
use Rattle.class_marker.specs.Markings.{TellsMarks, TellsScore}
use Rattle.fux_grid.specs.declared.exercise.Exercise.{Exercise}
use Rattle.score_marker.specs.Cantus.{AreCantusMarks}
use Rattle.works.specs.declared.refusal.Refusal.{Refusal}
use Rattle.works.specs.declared.refusal.Refusal.TheVariants.{NoSetting}
use Rattle.works.specs.declared.work.Output.{Output}
use Rattle.works.specs.declared.work.Verdict.{Verdict}
use Rattle.works.specs.declared.work.Verdict.TheVariants.{Favorable, Unfavorable}
use Rattle.works.specs.Texts.{Work}

-- marks are unfavorable where there is one
abbrev pub marks_verdict : Bool → Verdict
marks_verdict false = Favorable
marks_verdict true = Unfavorable

-- an output is these lines
pub record IsOutputOf (lines : MarkLines) (output : Output) : Type 0 where
  pub bytes : output.bytes ≡ string_bytes lines.text
  pub verdict : output.verdict ≡ marks_verdict lines.has_mark

-- an output is the lines of which a fact holds
pub record TellsLines (Told : MarkLines → Type 0) (output : Output) : Type 0 where
  pub lines : MarkLines
  pub told : Told lines
  pub written : IsOutputOf lines output

-- a refusal of an exercise without a setting
abbrev pub RefusesNoSetting : Exercise → Refusal → Type 0
RefusesNoSetting ex NoSetting = ex.setting ≡ None
RefusesNoSetting ex _ = ⊥

-- `mark` makes this of an exercise
abbrev pub Marks : Exercise → Work → Type 0
Marks ex (Ok output) = TellsLines (TellsScore ex) output
Marks ex (Err refusal) = RefusesNoSetting ex refusal

-- `cantus` makes this of an exercise
abbrev pub CantusMarks : Exercise → Work → Type 0
CantusMarks ex (Ok output) = TellsLines (TellsMarks ex (AreCantusMarks ex)) output
CantusMarks ex (Err refusal) = ⊥
