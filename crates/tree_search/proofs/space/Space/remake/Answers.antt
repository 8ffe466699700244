use Rattle.tree_search.proofs.Trails.{has_child}
use Rattle.tree_search.proofs.space.Space.remake.Goals as goal

pub child-requires : goal.child-requires
child-requires g c = has_child (g.met.Self.Space.floors_grow c.args.self.now) c.requires
