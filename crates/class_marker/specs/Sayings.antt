-- What is said of a file of a class: by a lesson, or by itself; of a text, or of a MIDI file.
use Rattle.std.specs.Prelude.{◌≡◌, ℕ, false, List, Option, Some, None, Ok, Err}
use Rattle.class_marker.specs.declared.marking.MarkLines.{MarkLines}
use Rattle.class_marker.specs.declared.one.Marking.TheVariants as marking
use Rattle.class_marker.specs.declared.one.Text.{Text}
use Rattle.class_marker.specs.declared.unmarked.Unmarked.TheVariants as unmarked
use Rattle.class_marker.specs.Markings.{IsContent, IsMarking, IsTheText, MarksText}
use Rattle.fux_grid.specs.declared.exercise.Exercise.{Exercise}
use Rattle.fux_grid.specs.Grid.{Grid}
use Rattle.fux_text.specs.Texts.{HasFault}
use Rattle.class_marker.specs.declared.answer.AnswerLines.{AnswerLines}
use Rattle.class_marker.specs.Answers.{TellsAnswer}
use Rattle.class_marker.specs.declared.said.Said.{Said}
use Rattle.class_marker.specs.declared.said.Said.TheVariants.{Told, Refused, Unjoined, Unread}
use Rattle.smf_score.specs.declared.manner.Manner.{Manner}
use Rattle.smf_score.specs.Joining.{IsJoined}

-- ---- by itself

-- these lines are those that `mark` writes of a text, of which nothing differs
pub record TellsAlone (bytes : List ℕ) (lines : AnswerLines) : Type 0 where
  pub marks : MarkLines
  pub told : MarksText bytes (Some marks)
  pub has_mark : lines.has_mark ≡ marks.has_mark
  pub differs : lines.differs ≡ false
  pub text : lines.text ≡ marks.text

-- this is said of a text by itself
abbrev pub IsSaidAlone : List ℕ → Said → Type 0
IsSaidAlone bytes (Told lines) = TellsAlone bytes lines
IsSaidAlone bytes (Refused why) = IsMarking bytes (marking.Refused why)
IsSaidAlone bytes (Unjoined fault) = ⊥
IsSaidAlone bytes Unread = ⊥

-- ---- by a lesson

-- these lines tell of an answer what differs from the lesson, and its marks by that
pub record TellsSetting (lesson answer : Exercise) (lines : AnswerLines) : Type 0 where
  pub score : Grid
  pub given : answer.setting ≡ Some score
  pub told : TellsAnswer lesson answer score lines

-- this is said of an answer by a lesson
abbrev pub SaysExercise : Exercise → Exercise → Said → Type 0
SaysExercise lesson answer (Told lines) = TellsSetting lesson answer lines
SaysExercise lesson answer (Refused (unmarked.Text kind line column)) = ⊥
SaysExercise lesson answer (Refused unmarked.NoSetting) = answer.setting ≡ None
SaysExercise lesson answer (Unjoined fault) = ⊥
SaysExercise lesson answer Unread = ⊥

-- this is said of the answer whose text these bytes are
pub record SaysTextOf (lesson : Exercise) (bytes : List ℕ) (said : Said) : Type 0 where
  pub answer : Exercise
  pub text : IsTheText bytes answer
  pub told : SaysExercise lesson answer said

-- this is said of a text by a lesson
abbrev pub IsSaidBy : Exercise → List ℕ → Said → Type 0
IsSaidBy lesson bytes (Told lines) = SaysTextOf lesson bytes (Told lines)
IsSaidBy lesson bytes (Refused (unmarked.Text kind line column)) = HasFault bytes kind line column
IsSaidBy lesson bytes (Refused unmarked.NoSetting) =
    SaysTextOf lesson bytes (Refused unmarked.NoSetting)
IsSaidBy lesson bytes (Unjoined fault) = ⊥
IsSaidBy lesson bytes Unread = ⊥

-- ---- a MIDI file by a lesson

-- a file of notes alone answers with all that the lesson sets
abbrev pub as_answer : Exercise → Exercise
as_answer lesson = record lesson { setting = None }

-- these lines tell of the setting of the lesson that a file is, played in a manner, what differs
-- from the lesson, and its marks by that
pub record TellsJoined (lesson : Exercise) (manner : Manner) (bytes : List ℕ) (lines : AnswerLines)
    : Type 0 where
  pub score : Grid
  pub joined : IsJoined lesson manner bytes (Ok score)
  pub told : TellsAnswer lesson (as_answer lesson) score lines

-- this is said of a file with these bytes: so, or its first fault
abbrev pub IsSaidJoined : Exercise → Manner → List ℕ → Said → Type 0
IsSaidJoined lesson manner bytes (Told lines) = TellsJoined lesson manner bytes lines
IsSaidJoined lesson manner bytes (Unjoined fault) = IsJoined lesson manner bytes (Err fault)
IsSaidJoined lesson manner bytes (Refused why) = ⊥
IsSaidJoined lesson manner bytes Unread = ⊥

-- ---- a text, by a lesson or by itself

-- this is said of a text, by a lesson where there is one
abbrev pub IsSaid : Option Exercise → List ℕ → Said → Type 0
IsSaid None bytes said = IsSaidAlone bytes said
IsSaid (Some lesson) bytes said = IsSaidBy lesson bytes said

-- this is said of each file of which no more than so many bytes are read, and of which this was
-- read
abbrev pub IsSaidOfBytes : (List ℕ → Said → Type 0) → ℕ → Text → Said → Type 0
IsSaidOfBytes Says limit read said = (bytes : List ℕ) → IsContent limit read bytes → Says bytes said

-- and this where it could not be read
abbrev pub IsSaidOrUnread : (List ℕ → Said → Type 0) → ℕ → Option Text → Said → Type 0
IsSaidOrUnread Says limit None said = said ≡ Unread
IsSaidOrUnread Says limit (Some read) said = IsSaidOfBytes Says limit read said

-- so of a text of at most 65,536 bytes
abbrev pub IsSaidOfText : Option Exercise → Text → Said → Type 0
IsSaidOfText lesson = IsSaidOfBytes (IsSaid lesson) 65536

abbrev pub IsSaidOf : Option Exercise → Option Text → Said → Type 0
IsSaidOf lesson = IsSaidOrUnread (IsSaid lesson) 65536

-- and of a MIDI file of at most 1,048,576
abbrev pub IsSaidOfFile : Exercise → Manner → Option Text → Said → Type 0
IsSaidOfFile lesson manner = IsSaidOrUnread (IsSaidJoined lesson manner) 1048576
