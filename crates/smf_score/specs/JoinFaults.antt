-- Answers other than want of memory.
use Rattle.std.specs.Prelude.{◌≡◌, Result, Ok, Err}
use Rattle.smf_score.specs.declared.fault.SmfFault.TheVariants as faults
use Rattle.smf_score.specs.declared.join_fault.JoinFault.{JoinFault}
use Rattle.smf_score.specs.declared.join_fault.JoinFault.TheVariants.{Smf}

-- a fault other than want of memory is the one that reading gives
abbrev pub Fails : {Y : Type 0} → JoinFault → Result Y JoinFault → Type 0
Fails (Smf faults.Memory) read = Unit {0}
Fails e read = read ≡ Err e

-- what a function answered is what reading gives, unless memory ran out
abbrev pub Gives : {X : Type 0} → Result X JoinFault → Result X JoinFault → Type 0
Gives (Ok x) read = read ≡ Ok x
Gives (Err e) read = Fails e read
