use Rattle.open_ends.proofs.GoesOn.{cadences-followed}
use Rattle.open_ends.proofs.cadences.OpenCadencesOpenPart.lawful_steps_go_on.Goals as goal

pub returns : goal.returns
returns c = cadences-followed
