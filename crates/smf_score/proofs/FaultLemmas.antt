-- A fault that reading gives is a fault of the answer (`fails_from`), and an answer is of what
-- reading is, too (`gives_as`).
use Rattle.std.proofs.Common.{◌≡◌, Result, Err, sym, subst}
use Rattle.smf_score.specs.declared.fault.SmfFault.TheVariants as faults
use Rattle.smf_score.specs.declared.join_fault.JoinFault.{JoinFault}
use Rattle.smf_score.specs.declared.join_fault.JoinFault.TheVariants.{Smf}
use Rattle.smf_score.specs.JoinFaults.{Fails, Gives}

pub fails_from : {Y : Type 0} (e : JoinFault) (read : Result Y JoinFault) → read ≡ Err e → Fails e read
fails_from (Smf faults.Memory) read h = tt
fails_from e read h = h

pub gives_as : {X : Type 0} (answer a b : Result X JoinFault) → b ≡ a → Gives answer a → Gives answer b
gives_as answer a b same h = subst (Gives answer) (sym same) h
