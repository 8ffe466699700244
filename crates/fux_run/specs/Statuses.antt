-- The statuses, and the numbers that the process ends with.
use Rattle.std.specs.Prelude.{ℕ}
use Rattle.fux_run.specs.declared.status.Status.{Status}
use Rattle.fux_run.specs.declared.status.Status.TheVariants.{Favorable, Unfavorable, Usage, Refused, Unreadable, Unwritable, Spent, OutOfMemory}
use Rattle.works.specs.declared.work.Verdict.{Verdict}
use Rattle.works.specs.declared.work.Verdict.TheVariants.{Favorable as favorable, Unfavorable as unfavorable, Spent as spent}

-- the number of a status
abbrev pub code_of : Status → ℕ
code_of Favorable = 0
code_of Unfavorable = 1
code_of Usage = 2
code_of Refused = 3
code_of Unreadable = 4
code_of Unwritable = 5
code_of Spent = 6
code_of OutOfMemory = 7

-- the status of a run that wrote its output
abbrev pub verdict_status : Verdict → Status
verdict_status favorable = Favorable
verdict_status unfavorable = Unfavorable
verdict_status spent = Spent
