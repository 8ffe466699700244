-- What the page has of a file of a class: what `mark`, `markpicture` and `explain` say of it.
use Rattle.std.specs.Prelude.{◌≡◌, ◌⊎◌, ℕ, true, false, List, [], Option, Some, None, length, map, nat_lt, string_bytes, if◌then◌else◌}
use Rattle.std.specs.Borrow.{Bor}
use Rattle.class_marker.specs.declared.one.Text.{Text}
use Rattle.class_marker.specs.Markings.{IsContent, IsTheText}
use Rattle.fux_grid.specs.declared.exercise.Exercise.{Exercise}
use Rattle.fux_grid.specs.Grid.{Grid}
use Rattle.fux_text.specs.Texts.{HasFault}
use Rattle.class_marker.specs.declared.difference.Difference.{Difference}
use Rattle.class_marker.specs.Answers.{is_markable}
use Rattle.class_marker.specs.DifferenceLines.{difference_lines}
use Rattle.class_marker.specs.Differences.{differences}
use Rattle.class_marker.specs.Explained.{explained_marks}
use Rattle.score_marker.specs.declared.mark.Mark.{Mark}
use Rattle.score_marker.specs.Marks.{AreMarks}
use Rattle.score_picture.specs.Pictures.{inlined_of}
use Rattle.text_faults.specs.declared.found.FoundFault.{FoundFault}
use Rattle.text_faults.specs.Explained.{TellsFaults}
use Rattle.written_notes.specs.declared.marks.SheetMark.{SheetMark}
use Rattle.class_marker.specs.declared.entry.Entry.{Entry}
use Rattle.class_marker.specs.declared.entry.Entry.TheVariants.{Setting, Faulty, Bare, Unread}
use Rattle.class_marker.specs.declared.entry.Shown.{Shown}

-- ---- a setting

-- a mark as a sheet shows it
abbrev pub shown_mark : Mark → SheetMark
shown_mark mark = record {
  bar = mark.bar;
  slot = mark.slot;
  rule = mark.rule;
  voices = mark.voices;
}

-- a setting is shown with its marks: those that it has by the rules of an exercise, in the picture
-- of an exercise with that setting, and in words
pub record ShowsMarks (rules ex : Exercise) (score : Grid) (shown : Shown) : Type 0 where
  pub marks : List Mark
  pub exact : AreMarks rules score.columns marks
  pub sheet : Bor (List SheetMark)
  pub are_shown : sheet.now ≡ map shown_mark marks
  pub counted : shown.marks ≡ Some (length marks)
  pub picture : string_bytes shown.picture ≡ inlined_of ex ex (Some sheet) None
  pub explained : string_bytes shown.explained ≡ explained_marks rules score.columns marks

-- a setting that can't be marked is shown as it is
pub record ShowsUnmarked (answer : Exercise) (shown : Shown) : Type 0 where
  pub counted : shown.marks ≡ None
  pub picture : string_bytes shown.picture ≡ inlined_of answer answer None None
  pub explained : string_bytes shown.explained ≡ []

-- so many lines tell what differs
pub record TellsDifferences (differences : List Difference) (shown : Shown) : Type 0 where
  pub text : string_bytes shown.differences ≡ difference_lines differences
  pub count : shown.differs ≡ length differences

-- a setting is shown by itself: with its marks, and nothing differs
pub record ShowsAlone (answer : Exercise) (score : Grid) (shown : Shown) : Type 0 where
  pub marked : ShowsMarks answer answer score shown
  pub differences : TellsDifferences [] shown

-- the lesson with the setting of an answer
abbrev pub answered : Exercise → Exercise → Exercise
answered lesson answer = record lesson { setting = answer.setting }

-- a setting is shown by a lesson: where it can be marked by that with its marks, as the setting of
-- the lesson, else as it is; and what differs
pub record ShowsBy (lesson answer : Exercise) (score : Grid) (shown : Shown) : Type 0 where
  pub marked : is_markable lesson answer ≡ true
      → ShowsMarks lesson (answered lesson answer) score shown
  pub unmarked : is_markable lesson answer ≡ false → ShowsUnmarked answer shown
  pub differences : TellsDifferences (differences lesson answer score.columns) shown

-- a setting is shown by a lesson, where there is one
abbrev pub ShowsScore : Option Exercise → Exercise → Grid → Shown → Type 0
ShowsScore None answer score shown = ShowsAlone answer score shown
ShowsScore (Some lesson) answer score shown = ShowsBy lesson answer score shown

-- the setting of an exercise is shown so
pub record ShowsSetting (lesson : Option Exercise) (answer : Exercise) (shown : Shown)
    : Type 0 where
  pub score : Grid
  pub given : answer.setting ≡ Some score
  pub shows : ShowsScore lesson answer score shown

-- ---- a text

-- an entry shows the setting of an exercise, or says that it has none
abbrev pub IsEntryOfExercise : Option Exercise → Exercise → Entry → Type 0
IsEntryOfExercise lesson answer (Setting shown) = ShowsSetting lesson answer shown
IsEntryOfExercise lesson answer (Faulty told) = ⊥
IsEntryOfExercise lesson answer Bare = answer.setting ≡ None
IsEntryOfExercise lesson answer Unread = ⊥

-- so of the exercise whose text these bytes are
pub record IsEntryOfAnswer (lesson : Option Exercise) (bytes : List ℕ) (entry : Entry)
    : Type 0 where
  pub answer : Exercise
  pub text : IsTheText bytes answer
  pub is : IsEntryOfExercise lesson answer entry

-- what is told of a text: nothing of the lines of one that is too long
abbrev pub told_of : List ℕ → List ℕ
told_of bytes = if nat_lt 65536 (length bytes) then [] else bytes

-- an entry explains the faults of a text, of which this is the first
abbrev pub ExplainsFaults : List ℕ → List ℕ → FoundFault → Entry → Type 0
ExplainsFaults name bytes first (Setting shown) = ⊥
ExplainsFaults name bytes first (Faulty told) = TellsFaults name bytes first told.items
ExplainsFaults name bytes first Bare = ⊥
ExplainsFaults name bytes first Unread = ⊥

-- an entry explains why bytes are no exercise's text
pub record ExplainsText (name bytes : List ℕ) (entry : Entry) : Type 0 where
  pub first : FoundFault
  pub fault : HasFault bytes first.kind first.line first.column
  pub explains : ExplainsFaults name (told_of bytes) first entry

-- an entry is that of a text under a name
abbrev pub IsEntryOfText : Option Exercise → List ℕ → List ℕ → Entry → Type 0
IsEntryOfText lesson name bytes entry =
    IsEntryOfAnswer lesson bytes entry ⊎ ExplainsText name bytes entry

-- an entry is that of a file of which this was read, if it could be
abbrev pub IsEntryOf : Option Exercise → List ℕ → Option Text → Entry → Type 0
IsEntryOf lesson name None entry = entry ≡ Unread
IsEntryOf lesson name (Some text) entry =
    (bytes : List ℕ) → IsContent 65536 text bytes → IsEntryOfText lesson name bytes entry
