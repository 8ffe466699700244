use Rattle.std.proofs.Common.{arith, take}
use Rattle.tree_search.proofs.Trails.{above_child, IsTrail-step}
use Rattle.tree_search.proofs.trail.step.Goals as goal

pub remake_behind-requires-clause-above : goal.remake_behind-requires-clause-above
remake_behind-requires-clause-above g c =
    above_child (g.met.S.Space.floors_grow c.args.space.now) c.requires.trail c.args.k c.requires.live

pub remake_behind-requires-clause-child : goal.remake_behind-requires-clause-child
remake_behind-requires-clause-child g c = λ d. record {
  path = take c.args.trail.now.level c.args.trail.now.path.items;
  at = c.requires.trail.nodes_at c.args.trail.now.level d (omega arith);
  is_live = c.requires.live;
}

pub go_on-requires-clause-path : goal.go_on-requires-clause-path
go_on-requires-clause-path g c =
    let above = above_child (g.met.S.Space.floors_grow c.args.space.now) c.requires.trail c.args.k
    c.requires.live in
    omega (arith, above, c.requires.trail.path_long)

pub go_on-requires-clause-entries : goal.go_on-requires-clause-entries
go_on-requires-clause-entries g c =
    let above = above_child (g.met.S.Space.floors_grow c.args.space.now) c.requires.trail c.args.k
    c.requires.live in
    omega (arith, above, c.requires.entries)

pub returns-clause-trail : goal.returns-clause-trail
returns-clause-trail g c =
    let trail = c.requires.trail in
    let level = c.args.trail.now.level in
    let above = above_child (g.met.S.Space.floors_grow c.args.space.now) trail c.args.k c.requires.live in
    rw (c.go_on.ensures.path, c.go_on.ensures.nodes, c.go_on.ensures.level)
    (IsTrail-step (g.S.Space.is_at c.args.space.now) _ _ _ _ _ c.args.k above trail c.remake_behind.ensures.kept
    (λ d. c.remake_behind.ensures.made d _ (trail.nodes_at level d (omega arith)) c.requires.live))
