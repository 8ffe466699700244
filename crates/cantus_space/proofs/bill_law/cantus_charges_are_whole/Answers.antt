use Rattle.cantus_space.proofs.ChargeLemmas.{charges_are_penalty}
use Rattle.cantus_space.proofs.bill_law.cantus_charges_are_whole.Goals as goal

pub returns : goal.returns
returns c = charges_are_penalty
