-- How a command's work on its files ends.
use Rattle.std.specs.Prelude.{◌≡◌, ℕ, ◌⊎◌, List, [], Contains, Option, Result, Ok, Err, length}
use Rattle.std.specs.Borrow.{Bor}
use Rattle.cert_text.specs.declared.answers.Form.{Form}
use Rattle.fux_port.specs.Counts.{Rose}
use Rattle.fux_port.specs.Promises.{Fails}
use Rattle.fux_port.specs.Written.{appended, StopsShort}
use Rattle.works.specs.declared.complaint.Complaint.{Complaint}
use Rattle.works.specs.declared.complaint.Complaint.TheVariants as complaint
use Rattle.class_marker.specs.declared.one.Text.{Text as Content}
use Rattle.works.specs.declared.refusal.Refusal.{Refusal}
use Rattle.works.specs.declared.work.Halt.{Halt}
use Rattle.works.specs.declared.work.Halt.TheVariants as halt
use Rattle.works.specs.declared.work.Halt.TheVariants.{Stopped}
use Rattle.works.specs.declared.work.Output.{Output}
use Rattle.works.specs.declared.work.Stop.{Stop}
use Rattle.works.specs.declared.work.Stop.TheVariants as stop
use Rattle.works.specs.declared.work.Unmade.{Unmade}
use Rattle.works.specs.declared.work.Unmade.TheVariants as unmade
use Rattle.works.specs.declared.work.Verdict.{Verdict}
use Rattle.command_words.specs.Commands.{Task, certify, sheet_named}
use Rattle.works.specs.TaskFiles.{name_in, names_in, names_within}
use Rattle.works.specs.Complaints.{name_text, refusal_text}
use Rattle.works.specs.Texts.{Work}
use Rattle.works.specs.Works.{AllMayHave, CertifiesText, Works, Files, IsFirstMissing, IsReadyFor, OnTexts}

-- the bytes that it writes to standard output
abbrev pub work_output : Work → List ℕ
work_output (Ok output) = output.bytes
work_output (Err refusal) = []

-- one of these names cannot be read: a read failed by the shelf's fault, or it is the first that is
-- missing
pub record IsUnread (files : Files) (rose : Type 0) (names : List (List ℕ)) (name : List ℕ) : Type 0 where
  pub asked : Contains names name
  pub cause : rose ⊎ IsFirstMissing files names name

-- a file that a command reads within its work cannot be read: the files before it can be, and none
-- of them keeps it from that
pub record IsUnreadWithin (task : Task) (files : Files) (rose : Type 0) (name : List ℕ) : Type 0 where
  pub bytes : List (List ℕ)
  pub had : AllMayHave files (names_in task) bytes
  pub ready : IsReadyFor task bytes
  pub unread : IsUnread files rose (names_within task bytes) name

-- a file of a command cannot be read, before its work or within it
abbrev pub IsUnreadOf : Task → Files → Type 0 → List ℕ → Type 0
IsUnreadOf task files rose name = IsUnread files rose (names_in task) name ⊎ IsUnreadWithin task files rose name

-- work whose output was written
pub record IsWritten (old new : Option (List ℕ)) (said : Verdict) (work : Work) : Type 0 where
  pub output : Output
  pub is : work ≡ Ok output
  pub verdict : output.verdict ≡ said
  pub written : new ≡ appended old output.bytes

-- work whose output was cut: a front that is shorter was written, and this is why so many bytes
-- could not be
pub record IsCut (Cut : ℕ → Type 0) (old new : Option (List ℕ)) (work : Work) : Type 0 where
  pub cause : Cut (length (work_output work))
  pub front : StopsShort old new (work_output work)

-- work that refuses a file of this name, as the text says
pub record IsRefused (name text : List ℕ) (work : Work) : Type 0 where
  pub refusal : Refusal
  pub is : work ≡ Err refusal
  pub told : text ≡ refusal_text name refusal

-- what a command made of its files, or why it made nothing, with the cause
abbrev pub IsMade : Task → Files → Type 0 → Result Output Complaint → Type 0
IsMade task files rose (Ok output) = Works task files (λ work. work ≡ Ok output)
IsMade task files rose (Err (complaint.Refused text)) = Works task files (IsRefused (name_in task) text)
IsMade task files rose (Err (complaint.Unreadable name)) = IsUnreadOf task files rose (name_text name)
IsMade task files rose (Err complaint.OutOfMemory) = Unit {0}
IsMade task files rose (Err _) = ⊥

-- work of which two facts hold
pub record Does (Made Holds : Work → Type 0) : Type 0 where
  pub work : Work
  pub made : Made work
  pub holds : Holds work

-- the answer of a command that writes while it works: all was written, or nothing of work that is
-- refused, or a front of the output
abbrev pub Writes : (Work → Type 0) → (ℕ → Type 0) → Option (List ℕ) → Option (List ℕ) → Result Verdict Halt → Type 0
Writes Made Cut old new (Ok verdict) = Does Made (IsWritten old new verdict)
Writes Made Cut old new (Err (Stopped (stop.Refused refusal))) = (new ≡ old) × Made (Err refusal)
Writes Made Cut old new (Err (Stopped stop.Memory)) = new ≡ old
Writes Made Cut old new (Err halt.Unwritable) = Does Made (IsCut Cut old new)

-- how a command's work on its files ended, with the cause: what was written to standard output, and
-- what is to be said
abbrev pub Ended : Task → Files → Type 0 → (ℕ → Type 0) → Option (List ℕ) → Option (List ℕ)
    → Result Verdict Complaint → Type 0
Ended task files rose Cut old new (Ok verdict) = Works task files (IsWritten old new verdict)
Ended task files rose Cut old new (Err (complaint.Refused text)) =
    (new ≡ old) × Works task files (IsRefused (name_in task) text)
Ended task files rose Cut old new (Err (complaint.Unreadable name)) =
    (new ≡ old) × IsUnreadOf task files rose (name_text name)
Ended task files rose Cut old new (Err complaint.Unwritable) = Works task files (IsCut Cut old new)
Ended task files rose Cut old new (Err complaint.OutOfMemory) = new ≡ old
Ended task files rose Cut old new (Err complaint.Usage) = ⊥

-- a complaint that says this of a refused file, where memory isn't wanting
abbrev pub SaysRefusal : List ℕ → Complaint → Type 0
SaysRefusal said (complaint.Refused text) = text ≡ said
SaysRefusal said complaint.OutOfMemory = Unit {0}
SaysRefusal said _ = ⊥

-- an answer of a command as a run tells it: its output, or what is said where there is none
abbrev pub Says : List ℕ → Result Output Stop → Result Output Complaint → Type 0
Says name (Ok output) told = told ≡ Ok output
Says name (Err (stop.Refused refusal)) (Err complaint) = SaysRefusal (refusal_text name refusal) complaint
Says name (Err (stop.Refused refusal)) (Ok output) = ⊥
Says name (Err stop.Memory) told = told ≡ Err complaint.OutOfMemory

-- the same of an answer of a command that reads this file within its work
abbrev pub SaysWithin : List ℕ → List ℕ → Result Output Unmade → Result Output Complaint → Type 0
SaysWithin name within (Ok output) told = told ≡ Ok output
SaysWithin name within (Err (unmade.Stopped stop)) told = Says name (Err stop) told
SaysWithin name within (Err unmade.Unreadable) (Err (complaint.Unreadable file)) = name_text file ≡ within
SaysWithin name within (Err unmade.Unreadable) _ = ⊥

-- an answer of a command that writes while it works, as a run tells it
abbrev pub SaysWritten : List ℕ → Result Verdict Halt → Result Verdict Complaint → Type 0
SaysWritten name (Ok verdict) told = told ≡ Ok verdict
SaysWritten name (Err (Stopped (stop.Refused refusal))) (Err complaint) =
    SaysRefusal (refusal_text name refusal) complaint
SaysWritten name (Err (Stopped (stop.Refused refusal))) (Ok verdict) = ⊥
SaysWritten name (Err (Stopped stop.Memory)) told = told ≡ Err complaint.OutOfMemory
SaysWritten name (Err halt.Unwritable) told = told ≡ Err complaint.Unwritable

-- how a run ended, by what the shelf and standard output tell before it and after it
abbrev pub EndsOn : {F K : Type 0} → (F → Files) → (F → ℕ) → (K → Option (List ℕ)) → (K → ℕ) → (K → ℕ → Type 0)
    → (Files → Type 0 → (ℕ → Type 0) → Option (List ℕ) → Option (List ℕ) → Result Verdict Complaint → Type 0)
    → F → F → K → K → Result Verdict Complaint → Type 0
EndsOn files faults written cuts takes Ends shelf later out end result =
    Ends (files shelf) (Rose (faults shelf) (faults later)) (Fails cuts takes out end) (written out) (written end)
    result

-- how `certify` on files of these names, within a budget and with a form, ended
abbrev pub CertifyEnds : {F K : Type 0} → (F → Files) → (F → ℕ) → (K → Option (List ℕ)) → (K → ℕ)
    → (K → ℕ → Type 0) → Bor (List ℕ) → Option (Bor (List ℕ)) → ℕ → Form → F → F → K → K
    → Result Verdict Complaint → Type 0
CertifyEnds files faults written cuts takes name sheet budget form =
    EndsOn files faults written cuts takes (Ended (certify name.now (sheet_named sheet) budget form))

-- the answer of a command that writes to standard output while it works, by what that tells before
-- it and after it
abbrev pub WritesTo : {K : Type 0} → (K → Option (List ℕ)) → (K → ℕ) → (K → ℕ → Type 0) → (Work → Type 0) → K → K
    → Result Verdict Halt → Type 0
WritesTo written faults takes Made old new answer =
    Writes Made (Fails faults takes old new) (written old) (written new) answer

-- the answer of `certify` to the texts that were read of an exercise and of a sheet
abbrev pub CertifiesTexts : {K : Type 0} → (K → Option (List ℕ)) → (K → ℕ) → (K → ℕ → Type 0) → ℕ → Form → Content
    → Option Content → K → K → Result Verdict Halt → Type 0
CertifiesTexts written faults takes budget form text weights old new answer =
    OnTexts text weights (λ bytes sheets.
    WritesTo written faults takes (CertifiesText budget form sheets bytes) old new answer)
