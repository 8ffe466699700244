use Rattle.open_ends.proofs.GoesOn.{leads_through}
use Rattle.open_ends.proofs.ends.lawful_steps_lead_on.Goals as goal

pub returns : goal.returns
returns c = leads_through
