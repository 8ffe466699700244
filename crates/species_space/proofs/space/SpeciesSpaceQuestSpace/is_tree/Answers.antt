use Rattle.std.specs.Prelude.{true}
use Rattle.species_space.proofs.Trees.{tree_of_settings}
use Rattle.species_space.proofs.space.SpeciesSpaceQuestSpace.is_tree.Goals as goal

pub returns : goal.returns
returns c = tree_of_settings true c.args.self.now.exercise c.args.self.now.sheet c.voices.ensures.valid
