-- What `class` makes of a list where each name has its place, also that of a file that can't be
-- read.
use Rattle.std.specs.Prelude.{◌≡◌, ℕ, ◌⊎◌, ◌+◌, Bool, true, false, List, [], ◌∷◌, Option, Some, None, Ok, Err, string_bytes}
use Rattle.std.specs.List.{AllZip}
use Rattle.class_marker.specs.declared.whole_report.WholeReport.{WholeReport}
use Rattle.class_marker.specs.declared.said.Said.{Said}
use Rattle.class_marker.specs.declared.said.Said.TheVariants.{Told, Refused, Unjoined, Unread}
use Rattle.class_marker.specs.LooseLists.{loose_names}
use Rattle.class_marker.specs.WholeReports.{IsReportOf, IsWholeOf, Saying}
use Rattle.class_marker.specs.Sayings.{IsSaid, IsSaidJoined}
use Rattle.command_words.specs.declared.command.FileKind.{FileKind}
use Rattle.command_words.specs.declared.command.FileKind.TheVariants as read_as
use Rattle.fux_grid.specs.declared.exercise.Exercise.{Exercise}
use Rattle.fux_port.specs.Files.{IsMissing, MayHave}
use Rattle.smf_score.specs.declared.manner.Manner.{Manner}
use Rattle.works.specs.declared.refusal.Refusal.{Refusal}
use Rattle.works.specs.declared.refusal.Refusal.TheVariants as refusal
use Rattle.works.specs.declared.work.Output.{Output}
use Rattle.works.specs.Answered.{OnLesson}
use Rattle.works.specs.ClassPages.{IsClassPage}
use Rattle.works.specs.Classes.{class_verdict}
use Rattle.works.specs.Texts.{Work}

-- ---- what is asked of the files of a class

-- they are texts by themselves, texts that answer a lesson, or MIDI files that do
pub data Sought : Type 0 where
  alone : Sought
  answers : (lesson : Exercise) → Sought
  played : (lesson : Exercise) (manner : Manner) → Sought

-- what is asked by a lesson
abbrev pub sought_by : FileKind → Exercise → Sought
sought_by read_as.Text lesson = answers lesson
sought_by read_as.Page lesson = answers lesson
sought_by (read_as.Midi manner) lesson = played lesson manner

-- by itself each file is a text
abbrev pub sought_in : FileKind → Option Exercise → Sought
sought_in kind None = alone
sought_in kind (Some lesson) = sought_by kind lesson

-- there is a lesson
abbrev pub is_by_lesson : Sought → Bool
is_by_lesson alone = false
is_by_lesson (answers lesson) = true
is_by_lesson (played lesson manner) = true

-- how many bytes of each file are read at most
abbrev pub limit_of : FileKind → ℕ
limit_of read_as.Text = 65536
limit_of read_as.Page = 65536
limit_of (read_as.Midi manner) = 1048576

-- ---- one file

-- this is said of bytes
abbrev pub SaysOf : Sought → List ℕ → Said → Type 0
SaysOf alone = IsSaid None
SaysOf (answers lesson) = IsSaid (Some lesson)
SaysOf (played lesson manner) = IsSaidJoined lesson manner

-- this is said of the bytes of a file
pub record SaysFile (files : Option (List ℕ → Option (List ℕ))) (sought : Sought) (name : List ℕ) (said : Said)
    : Type 0 where
  pub bytes : List ℕ
  pub had : MayHave files name bytes
  pub is : SaysOf sought bytes said

-- this is said of the file of a name; that it can't be read only for a cause: the file is missing,
-- or a read failed by the shelf's fault
abbrev pub IsSaidIn : Option (List ℕ → Option (List ℕ)) → Type 0 → Sought → List ℕ → Said → Type 0
IsSaidIn files failed sought name (Told lines) = SaysFile files sought name (Told lines)
IsSaidIn files failed sought name (Refused why) = SaysFile files sought name (Refused why)
IsSaidIn files failed sought name (Unjoined fault) = SaysFile files sought name (Unjoined fault)
IsSaidIn files failed sought name Unread = failed ⊎ IsMissing files name

abbrev pub IsSayingIn : Option (List ℕ → Option (List ℕ)) → Type 0 → Sought → List ℕ → Saying → Type 0
IsSayingIn files failed sought name saying = (saying.0 ≡ name) × IsSaidIn files failed sought name saying.1

-- ---- all files of a class

-- what is said of the files of these names
pub record AreSaid (files : Option (List ℕ → Option (List ℕ))) (failed : Type 0) (sought : Sought)
    (names : List (List ℕ)) (report : WholeReport) : Type 0 where
  pub sayings : List Saying
  pub each : AllZip (IsSayingIn files failed sought) names sayings
  pub counted : IsReportOf sayings report

-- the output of a whole report
abbrev pub whole_output : WholeReport → Output
whole_output report = record {
  verdict = class_verdict report.marked (report.refused + report.others);
  bytes = string_bytes report.text;
}

-- an output is the report of the files of these names
pub record IsWholeReport (files : Option (List ℕ → Option (List ℕ))) (failed : Type 0) (sought : Sought)
    (names : List (List ℕ)) (output : Output) : Type 0 where
  pub sayings : List Saying
  pub each : AllZip (IsSayingIn files failed sought) names sayings
  pub report : WholeReport
  pub whole : IsWholeOf (is_by_lesson sought) sayings report
  pub written : output ≡ whole_output report

-- what is made of a class, by a lesson where there is one: a report, or a page
abbrev pub IsMadeOf : Option (List ℕ → Option (List ℕ)) → Type 0 → FileKind → Option Exercise → List (List ℕ) → Output
    → Type 0
IsMadeOf files failed read_as.Text lesson = IsWholeReport files failed (sought_in read_as.Text lesson)
IsMadeOf files failed read_as.Page lesson = IsClassPage files failed lesson
IsMadeOf files failed (read_as.Midi manner) lesson =
    IsWholeReport files failed (sought_in (read_as.Midi manner) lesson)

-- an output is what is made of the files that a list names
pub record ReportsList (files : Option (List ℕ → Option (List ℕ))) (failed : Type 0) (kind : FileKind)
    (lesson : Option Exercise) (list : List ℕ) (output : Output) : Type 0 where
  pub names : List (List ℕ)
  pub listed : loose_names list ≡ Ok names
  pub reported : IsMadeOf files failed kind lesson names output

-- a refusal of bytes that are no list: it tells the first line at fault
abbrev pub RefusesLoose : List ℕ → Refusal → Type 0
RefusesLoose list (refusal.List line) = loose_names list ≡ Err line
RefusesLoose list _ = ⊥

-- `class` makes this of a list, by a lesson where there is one
abbrev pub ReportsBy : Option (List ℕ → Option (List ℕ)) → Type 0 → FileKind → List ℕ → Option Exercise → Work → Type 0
ReportsBy files failed kind list lesson (Ok output) = ReportsList files failed kind lesson list output
ReportsBy files failed kind list lesson (Err refusal) = RefusesLoose list refusal

-- `class` makes this of a list, and of the text of a lesson where one is given
abbrev pub ReportsWhole : Option (List ℕ → Option (List ℕ)) → Type 0 → FileKind → List ℕ → List (List ℕ) → Work → Type 0
ReportsWhole files failed kind list [] work = ReportsBy files failed kind list None work
ReportsWhole files failed kind list (given ∷ []) work =
    OnLesson (λ lesson. ReportsBy files failed kind list (Some lesson)) given work
ReportsWhole files failed kind list _ work = ⊥

-- `class` makes this of names that the words give, by a lesson where there is one
abbrev pub ReportsNames : Option (List ℕ → Option (List ℕ)) → Type 0 → FileKind → List (List ℕ) → Option Exercise → Work
    → Type 0
ReportsNames files failed kind names lesson (Ok output) = IsMadeOf files failed kind lesson names output
ReportsNames files failed kind names lesson (Err refusal) = ⊥

-- and this, of the text of a lesson where one is given
abbrev pub ReportsNamed : Option (List ℕ → Option (List ℕ)) → Type 0 → FileKind → List (List ℕ) → List (List ℕ) → Work
    → Type 0
ReportsNamed files failed kind names [] work = ReportsNames files failed kind names None work
ReportsNamed files failed kind names (given ∷ []) work =
    OnLesson (λ lesson. ReportsNames files failed kind names (Some lesson)) given work
ReportsNamed files failed kind names _ work = ⊥
