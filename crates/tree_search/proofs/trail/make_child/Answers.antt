use Rattle.std.proofs.Common.{take, sym, subst, arith}
use Rattle.std.proofs.lemmas.List.{length-take}
use Rattle.tree_search.proofs.Trails.{node_there}
use Rattle.tree_search.proofs.trail.make_child.Goals as goal

pub child_into-requires-clause-child : goal.child_into-requires-clause-child
child_into-requires-clause-child g c = record {
  path = take c.args.level c.args.trail.now.path.items;
  at = node_there c.requires.trail c.node_at.result.now (c.node_at.ensures c.node_at.result.now);
  above = omega (
    arith,
    length-take c.args.level c.args.trail.now.path.items,
    c.requires.trail.path_long,
    c.requires.above,
  );
  within = c.requires.within;
}

pub child_into-requires-clause-told : goal.child_into-requires-clause-told
child_into-requires-clause-told g c =
    subst (λ (x : g.row.S-Node.Denot). g.S.Space.is_told c.args.space.now x c.args.k)
    (sym (c.node_at.ensures c.node_at.result.now)) (c.requires.told c.node_at.result.now)
