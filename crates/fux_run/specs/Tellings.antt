-- What a run tells of a complaint: the line on standard error, and the status.
use Rattle.std.specs.Prelude.{ℕ, List, [], ◌∷◌, ◌++◌, codes}
use Rattle.works.specs.declared.complaint.Complaint.{Complaint}
use Rattle.works.specs.declared.complaint.Complaint.TheVariants.{Usage, Refused, Unreadable, Unwritable, OutOfMemory}
use Rattle.fux_run.specs.declared.status.Status.{Status}
use Rattle.fux_run.specs.declared.status.Status.TheVariants as status
use Rattle.works.specs.Complaints.{name_text}

-- what is said of a complaint
abbrev pub complaint_text : Complaint → List ℕ
complaint_text Usage = codes "usage"
complaint_text (Refused text) = text
complaint_text (Unreadable name) = codes "cannot read " ++ name_text name
complaint_text Unwritable = codes "cannot write"
complaint_text OutOfMemory = codes "out of memory"

-- a line of the program
abbrev pub fux_line : List ℕ → List ℕ
fux_line text = codes "fux: " ++ text ++ 10 ∷ []

-- the status of a run that ends with a complaint
abbrev pub complaint_status : Complaint → Status
complaint_status Usage = status.Usage
complaint_status (Refused text) = status.Refused
complaint_status (Unreadable name) = status.Unreadable
complaint_status Unwritable = status.Unwritable
complaint_status OutOfMemory = status.OutOfMemory
