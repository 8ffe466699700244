-- What `mark` says of an exercise, and of the text of one.
use Rattle.std.specs.Prelude.{◌≡◌, ℕ, ◌<◌, List, Option, Some, None, length, nat_lt, string_bytes}
use Rattle.fux_grid.specs.declared.exercise.Exercise.{Exercise}
use Rattle.fux_grid.specs.Grid.{Grid}
use Rattle.fux_text.specs.Texts.{HasFault, IsTextOf}
use Rattle.score_marker.specs.declared.mark.Mark.{Mark}
use Rattle.score_marker.specs.MarkLines.{marks_text}
use Rattle.score_marker.specs.Marks.{AreMarks}
use Rattle.class_marker.specs.declared.marking.MarkLines.{MarkLines}
use Rattle.class_marker.specs.declared.one.Marking.{Marking}
use Rattle.class_marker.specs.declared.one.Marking.TheVariants.{Marked, Refused}
use Rattle.class_marker.specs.declared.one.Text.{Text}
use Rattle.class_marker.specs.declared.one.Text.TheVariants.{Bytes, TooLong}
use Rattle.class_marker.specs.declared.unmarked.Unmarked.TheVariants as unmarked

-- these lines tell these marks of an exercise
pub record AreLinesOf (ex : Exercise) (marks : List Mark) (lines : MarkLines) : Type 0 where
  pub text : string_bytes lines.text ≡ marks_text ex marks
  pub has_mark : lines.has_mark ≡ nat_lt 0 (length marks)

-- these lines tell the marks of an exercise that a fact describes
pub record TellsMarks (ex : Exercise) (AreTheMarks : List Mark → Type 0) (lines : MarkLines) : Type 0 where
  pub marks : List Mark
  pub exact : AreTheMarks marks
  pub told : AreLinesOf ex marks lines

-- these lines tell the marks of an exercise's setting; or it has none
pub record TellsScore (ex : Exercise) (lines : MarkLines) : Type 0 where
  pub score : Grid
  pub given : ex.setting ≡ Some score
  pub told : TellsMarks ex (AreMarks ex score.columns) lines

abbrev pub TellsSetting : Exercise → Option MarkLines → Type 0
TellsSetting ex (Some lines) = TellsScore ex lines
TellsSetting ex None = ex.setting ≡ None

-- these bytes are the text of an exercise, and of no other
pub record IsTheText (bytes : List ℕ) (ex : Exercise) : Type 0 where
  pub text : IsTextOf bytes ex
  pub only : (other : Exercise) → IsTextOf bytes other → ex ≡ other

-- these bytes are the text of an exercise, of which `mark` says so
pub record MarksText (bytes : List ℕ) (lines : Option MarkLines) : Type 0 where
  pub exercise : Exercise
  pub text : IsTheText bytes exercise
  pub told : TellsSetting exercise lines

-- `mark` says this of a file with these bytes: the lines of its marks, or why it refuses it
abbrev pub IsMarking : List ℕ → Marking → Type 0
IsMarking bytes (Marked lines) = MarksText bytes (Some lines)
IsMarking bytes (Refused (unmarked.Text kind line column)) = HasFault bytes kind line column
IsMarking bytes (Refused unmarked.NoSetting) = MarksText bytes None

-- what was read of a file with these bytes, of which no more than so many are read
abbrev pub IsContent : ℕ → Text → List ℕ → Type 0
IsContent limit (Bytes read) bytes = read.items ≡ bytes
IsContent limit TooLong bytes = limit < length bytes

-- `mark` says this of each file of which no more than 65,536 bytes are read, and of which this was
-- read
abbrev pub IsMarkingOf : Text → Marking → Type 0
IsMarkingOf text marking = (bytes : List ℕ) → IsContent 65536 text bytes → IsMarking bytes marking
