use Rattle.works.proofs.AcceptedLemmas as accepted
use Rattle.works.proofs.law.certified_is_accepted.Goals as goal

pub returns : goal.returns
returns c = record { settings = accepted.certified_is_accepted; cantus = accepted.certified_cantus_is_accepted }
