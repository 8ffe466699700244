use Rattle.open_ends.proofs.GoesOn.{ligature-followed}
use Rattle.open_ends.proofs.ligatures.OpenLigatureOpenPart.lawful_steps_go_on.Goals as goal

pub returns : goal.returns
returns c = ligature-followed
