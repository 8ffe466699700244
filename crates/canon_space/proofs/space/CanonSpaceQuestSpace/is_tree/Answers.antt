use Rattle.canon_space.proofs.Trees.{tree_of_canons}
use Rattle.canon_space.proofs.space.CanonSpaceQuestSpace.is_tree.Goals as goal

pub returns : goal.returns
returns c = tree_of_canons c.args.self.now.canon c.args.self.now.sheet c.canon.ensures.valid.two_voices
