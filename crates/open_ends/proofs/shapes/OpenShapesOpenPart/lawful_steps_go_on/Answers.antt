use Rattle.open_ends.proofs.KeepsShapes.{shapes-followed}
use Rattle.open_ends.proofs.shapes.OpenShapesOpenPart.lawful_steps_go_on.Goals as goal

pub returns : goal.returns
returns c = shapes-followed
