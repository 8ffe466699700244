-- How a run ends.
use Rattle.std.specs.Prelude.{◌≡◌, ℕ, ◌⊎◌, List, [], ◌++◌, String, Option, None, Some, Result, Ok, Err, codes}
use Rattle.fux_port.specs.Promises.{Reads}
use Rattle.fux_port.specs.Written.{appended}
use Rattle.works.specs.declared.complaint.Complaint.{Complaint}
use Rattle.works.specs.declared.complaint.Complaint.TheVariants as complaint
use Rattle.fux_run.specs.declared.status.Status.{Status}
use Rattle.fux_run.specs.declared.status.Status.TheVariants.{Favorable, Unfavorable, Usage, Refused, Unreadable, Unwritable, Spent, OutOfMemory}
use Rattle.works.specs.declared.work.Verdict.{Verdict}
use Rattle.command_words.specs.Commands.{Task, asked, texts}
use Rattle.fux_run.specs.Tellings.{complaint_status, complaint_text, fux_line}
use Rattle.works.specs.Blame.{IsUnserved}
use Rattle.works.specs.Complaints.{refusal_text}
use Rattle.fux_run.specs.Statuses.{code_of, verdict_status}
use Rattle.works.specs.Texts.{Work}
use Rattle.works.specs.Works.{Files}
use Rattle.works.specs.Endings.{Ended, IsCut, IsUnreadOf, work_output}

-- the status of work
abbrev pub work_status : Work → Status
work_status (Ok output) = verdict_status output.verdict
work_status (Err refusal) = Refused

-- the bytes that it writes to standard error, where the exercise has this name: an output has none
abbrev pub work_line : List ℕ → Work → List ℕ
work_line name (Ok output) = []
work_line name (Err refusal) = fux_line (refusal_text name refusal)

-- a run ends with the status of this work, having written its output and its line; or so many bytes
-- could not be written, and it wrote a front of them that is shorter, and says so
abbrev pub EndsAs : List ℕ → ℕ → (ℕ → Type 0) → Option (List ℕ) → Option (List ℕ) → (List ℕ → Type 0) → Work → Type 0
EndsAs name code Cut old new Complains work =
    ((code ≡ code_of (work_status work)) × (new ≡ appended old (work_output work)) × Complains (work_line name work))
    ⊎ ((code ≡ code_of Unwritable) × IsCut Cut old new work × Complains (fux_line (codes "cannot write")))

-- a run ends as one whose file cannot be read, and of which not each read was promised
pub record EndsUnread (task : Task) (files : Files) (serves : Reads) (rose : Type 0) (Complains : List ℕ → Type 0) : Type 0
  where
    pub name : List ℕ
    pub unread : IsUnreadOf task files rose name
    pub unserved : IsUnserved serves files task name
    pub told : Complains (fux_line (codes "cannot read " ++ name))

-- the statuses of a run that wrote its output
abbrev pub IsDone : ℕ → Type 0
IsDone code = (code ≡ code_of Favorable) ⊎ ((code ≡ code_of Unfavorable) ⊎ (code ≡ code_of Spent))

-- the statuses of a run that wrote nothing to standard output
abbrev pub IsStopped : ℕ → Type 0
IsStopped code =
    (code ≡ code_of Usage) ⊎ ((code ≡ code_of Refused) ⊎ ((code ≡ code_of Unreadable) ⊎ (code ≡ code_of OutOfMemory)))

-- a run that came to no command: the words are of no form, or memory was wanting for them
abbrev pub IsNoTask : Result Verdict Complaint → Type 0
IsNoTask (Err complaint.Usage) = Unit {0}
IsNoTask (Err complaint.OutOfMemory) = Unit {0}
IsNoTask _ = ⊥

-- how a run on words that ask for this, or for nothing, ended
abbrev pub EndedAs : Option Task → Files → Type 0 → (ℕ → Type 0) → Option (List ℕ) → Option (List ℕ)
    → Result Verdict Complaint → Type 0
EndedAs None files rose Cut old new result = (new ≡ old) × IsNoTask result
EndedAs (Some task) files rose Cut old new result = Ended task files rose Cut old new result

-- how a run on these words ended
abbrev pub EndedBy : {Y : Type 0} → List (String Y) → Files → Type 0 → (ℕ → Type 0) → Option (List ℕ) → Option (List ℕ)
    → Result Verdict Complaint → Type 0
EndedBy words = EndedAs (asked (texts words))

-- the status that a run ends with
abbrev pub result_status : Result Verdict Complaint → Status
result_status (Ok verdict) = verdict_status verdict
result_status (Err complaint) = complaint_status complaint

-- the bytes that it writes to standard error: none where the output was written
abbrev pub result_line : Result Verdict Complaint → List ℕ
result_line (Ok verdict) = []
result_line (Err complaint) = fux_line (complaint_text complaint)
