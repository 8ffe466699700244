-- What `print`, `tosmf`, `toxml`, `markxml`, `picture` and `markpicture` write: an exercise with
-- its setting in another form.
use Rattle.std.specs.Prelude.{◌≡◌, ℕ, Bool, List, Option, None, Some, Ok, Err, length, map, nat_lt, option_map, if◌then◌else◌}
use Rattle.std.specs.Borrow.{Bor}
use Rattle.class_marker.specs.Entries.{shown_mark}
use Rattle.fux_grid.specs.declared.exercise.Exercise.{Exercise}
use Rattle.fux_grid.specs.Grid.{Grid}
use Rattle.fux_judge.specs.Penalties.{penalty_of}
use Rattle.penalty_sheet.specs.declared.sheet.Sheet.{Sheet}
use Rattle.score_marker.specs.declared.mark.Mark.{Mark}
use Rattle.score_marker.specs.Marks.{AreMarks}
use Rattle.score_picture.specs.Pictures.{picture_of}
use Rattle.score_print.specs.Printed.{printed_sheet}
use Rattle.score_print.specs.Systems.{IsWrapped}
use Rattle.written_notes.specs.Documents.{document}
use Rattle.smf_score.specs.Written.{smf_of}
use Rattle.written_notes.specs.declared.marks.SheetMark.{SheetMark}
use Rattle.works.specs.declared.work.Output.{Output}
use Rattle.works.specs.declared.work.Verdict.TheVariants.{Favorable}
use Rattle.works.specs.Marked.{RefusesNoSetting, marks_verdict}
use Rattle.works.specs.Texts.{Work}

-- an output is the setting of an exercise in the form that a function gives it
pub record IsInForm (ex : Exercise) (form : Grid → List ℕ) (output : Output) : Type 0 where
  pub score : Grid
  pub given : ex.setting ≡ Some score
  pub bytes : output.bytes ≡ form score
  pub verdict : output.verdict ≡ Favorable

-- a command that writes the setting of an exercise in a form makes this
abbrev pub Renders : Exercise → (Grid → List ℕ) → Work → Type 0
Renders ex form (Ok output) = IsInForm ex form output
Renders ex form (Err refusal) = RefusesNoSetting ex refusal

-- bytes are the printed score of an exercise, in systems where a width is given
abbrev pub IsPrinted : Option ℕ → Exercise → List ℕ → Type 0
IsPrinted None ex bytes = bytes ≡ printed_sheet ex
IsPrinted (Some columns) ex bytes = IsWrapped ex columns bytes

-- `print` makes this of an exercise, with or without a setting
abbrev pub Prints : Option ℕ → Exercise → Work → Type 0
Prints wrap ex (Ok output) = IsPrinted wrap ex output.bytes × (output.verdict ≡ Favorable)
Prints wrap ex (Err refusal) = ⊥

-- `tosmf` makes this of an exercise
abbrev pub WritesSmf : Exercise → Work → Type 0
WritesSmf ex = Renders ex smf_of

-- `toxml` makes this of an exercise, with or without a setting
abbrev pub WritesXml : Exercise → Work → Type 0
WritesXml ex (Ok output) = (output.bytes ≡ document ex ex None) × (output.verdict ≡ Favorable)
WritesXml ex (Err refusal) = ⊥

-- an output is the document of an exercise with the notes of these marks in red, and with the title
-- of the exercise by whose rules they are
pub record ShowsMarks (ex rules : Exercise) (marks : List Mark) (output : Output) : Type 0 where
  pub shown : Bor (List SheetMark)
  pub are_shown : shown.now ≡ map shown_mark marks
  pub bytes : output.bytes ≡ document ex rules (Some shown)
  pub verdict : output.verdict ≡ marks_verdict (nat_lt 0 (length marks))

-- an output is the document of the setting of an exercise with exactly the marks in red that it has
-- by the rules of another one
pub record IsMarkedDocument (ex rules : Exercise) (output : Output) : Type 0 where
  pub score : Grid
  pub given : ex.setting ≡ Some score
  pub marks : List Mark
  pub exact : AreMarks rules score.columns marks
  pub told : ShowsMarks ex rules marks output

-- `markxml` makes this of an exercise by the rules of another one, which is the mixed one where
-- species are named, and else itself
abbrev pub MarksXml : Exercise → Exercise → Work → Type 0
MarksXml ex rules (Ok output) = IsMarkedDocument ex rules output
MarksXml ex rules (Err refusal) = RefusesNoSetting ex refusal

-- the penalty that a picture shows: that of the setting, over the sheet in use, where it is wanted
abbrev pub shown_penalty : Bool → Sheet → Exercise → Option ℕ
shown_penalty wanted sheet ex =
    if wanted then option_map (λ score. penalty_of ex sheet score.columns) ex.setting else None

-- `picture` makes this of an exercise, with or without a setting
abbrev pub Pictures : Bool → Sheet → Exercise → Work → Type 0
Pictures wanted sheet ex (Ok output) =
    (output.bytes ≡ picture_of ex ex None (shown_penalty wanted sheet ex)) × (output.verdict ≡ Favorable)
Pictures wanted sheet ex (Err refusal) = ⊥

-- an output is the picture of the setting of an exercise with exactly its marks in red, by the
-- rules of an exercise
pub record IsMarkedPicture (ex rules : Exercise) (output : Output) : Type 0 where
  pub score : Grid
  pub given : ex.setting ≡ Some score
  pub marks : List Mark
  pub exact : AreMarks rules score.columns marks
  pub shown : Bor (List SheetMark)
  pub are_shown : shown.now ≡ map shown_mark marks
  pub bytes : output.bytes ≡ picture_of ex rules (Some shown) None
  pub verdict : output.verdict ≡ marks_verdict (nat_lt 0 (length marks))

-- `markpicture` makes this of an exercise, by its own rules or those of a mixed one
abbrev pub MarksPicture : Exercise → Exercise → Work → Type 0
MarksPicture ex rules (Ok output) = IsMarkedPicture ex rules output
MarksPicture ex rules (Err refusal) = RefusesNoSetting ex refusal
