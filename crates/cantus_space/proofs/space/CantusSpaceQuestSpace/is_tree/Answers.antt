use Rattle.cantus_space.proofs.Trees.{tree_of_cantus}
use Rattle.cantus_space.proofs.space.CantusSpaceQuestSpace.is_tree.Goals as goal

pub returns : goal.returns
returns c = tree_of_cantus c.args.self.now
