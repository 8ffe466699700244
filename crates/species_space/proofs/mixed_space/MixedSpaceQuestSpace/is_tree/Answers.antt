use Rattle.std.specs.Prelude.{false}
use Rattle.species_space.proofs.Trees.{tree_of_settings}
use Rattle.species_space.proofs.mixed_space.MixedSpaceQuestSpace.is_tree.Goals as goal

pub returns : goal.returns
returns c = tree_of_settings false c.args.self.now.exercise c.args.self.now.sheet c.voices.ensures.valid
