use Rattle.open_ends.proofs.GoesOn.{passing-followed}
use Rattle.open_ends.proofs.passing.OpenPassingOpenPart.lawful_steps_go_on.Goals as goal

pub returns : goal.returns
returns c = passing-followed
