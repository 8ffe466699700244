use Rattle.std.proofs.Common.{arith}
use Rattle.cert_tree.proofs.Levels.{few_levels}
use Rattle.cert_tree.proofs.walk.enter.Goals as goal

pub push_reserved-requires : goal.push_reserved-requires
push_reserved-requires g c =
    let it = c.args.it.now in
    let tree = g.T.ClaimTree in
    omega (
      arith,
      c.requires.room,
      few_levels (tree.tree it) (tree.root it) (tree.ways it) (tree.is_of it) (g.met.T.ClaimTree.are_ways it)
          c.args.walk.now.levels.items c.args.parent.now c.requires.parent,
    )
