use Rattle.open_ends.proofs.GoesOn.{turns-followed}
use Rattle.open_ends.proofs.turns.OpenTurnsOpenPart.lawful_steps_go_on.Goals as goal

pub returns : goal.returns
returns c = turns-followed
