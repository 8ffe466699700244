use Rattle.std.proofs.Common.{false}
use Rattle.tree_search.proofs.Trails.{has_child}
use Rattle.species_space.specs.Grows.{with_grow}
use Rattle.species_space.proofs.mixed_space.MixedSpaceSpace.remake.Goals as goal

pub child_with-requires-clause-child : goal.child_with-requires-clause-child
child_with-requires-clause-child c =
    has_child (with_grow false c.args.self.now.exercise c.args.self.now.sheet) c.requires
