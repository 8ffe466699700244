use Rattle.fux_run.proofs.AcceptedRuns.{accepted_cantus_run, accepted_run}
use Rattle.fux_run.proofs.law.certified_run_is_accepted.Goals as goal

pub returns : goal.returns
returns c = record { settings = accepted_run; cantus = accepted_cantus_run }
