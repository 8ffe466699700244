use Rattle.open_ends.proofs.GoesOn.{parallels-followed}
use Rattle.open_ends.proofs.parallels.OpenParallelsOpenPart.lawful_steps_go_on.Goals as goal

pub returns : goal.returns
returns c = parallels-followed
