-- The status of a run that blames no device.
use Rattle.std.proofs.Common.{◌≡◌, ◌≢◌, ℕ, Result, Ok, Err}
use Rattle.std.specs.Prelude.{IfErr}
use Rattle.works.specs.declared.complaint.Complaint.{Complaint}
use Rattle.works.specs.declared.complaint.Complaint.TheVariants.{Usage, Refused, Unreadable, Unwritable, OutOfMemory}
use Rattle.works.specs.declared.work.Verdict.{Verdict}
use Rattle.works.specs.declared.work.Verdict.TheVariants.{Favorable, Unfavorable, Spent}
use Rattle.works.specs.Blame.{BlamesNoFile}
use Rattle.fux_run.specs.Runs.{result_status}
use Rattle.fux_run.specs.Statuses.{code_of}

pub reads_status : (result : Result Verdict Complaint) (code : ℕ) → code ≡ code_of (result_status result)
    → IfErr result BlamesNoFile → code ≢ 4
reads_status (Ok Favorable) code is reads four = cc (is, four)
reads_status (Ok Unfavorable) code is reads four = cc (is, four)
reads_status (Ok Spent) code is reads four = cc (is, four)
reads_status (Err Usage) code is reads four = cc (is, four)
reads_status (Err (Refused text)) code is reads four = cc (is, four)
reads_status (Err (Unreadable name)) code is reads four = reads
reads_status (Err Unwritable) code is reads four = cc (is, four)
reads_status (Err OutOfMemory) code is reads four = cc (is, four)
