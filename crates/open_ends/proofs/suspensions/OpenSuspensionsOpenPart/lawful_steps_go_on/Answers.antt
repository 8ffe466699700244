use Rattle.open_ends.proofs.GoesOn.{suspensions-followed}
use Rattle.open_ends.proofs.suspensions.OpenSuspensionsOpenPart.lawful_steps_go_on.Goals as goal

pub returns : goal.returns
returns c = suspensions-followed
