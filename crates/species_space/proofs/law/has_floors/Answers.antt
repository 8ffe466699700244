use Rattle.species_space.proofs.FloorSteps.{floors_hold}
use Rattle.species_space.proofs.law.has_floors.Goals as goal

pub returns : goal.returns
returns c = floors_hold c.args.space.now.exercise c.args.space.now.sheet c.voices.ensures.valid
