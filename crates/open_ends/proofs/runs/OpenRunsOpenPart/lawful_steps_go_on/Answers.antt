use Rattle.open_ends.proofs.GoesOn.{runs-followed}
use Rattle.open_ends.proofs.runs.OpenRunsOpenPart.lawful_steps_go_on.Goals as goal

pub returns : goal.returns
returns c = runs-followed
