use Rattle.std.proofs.Common.{sym, subst, IsSome, Option, ℕ, true≢false}
use Rattle.floor_graphs.specs.Laws.{dead_by_sum, floor_of_child, tree_from_sharpened}
use Rattle.floor_graphs.proofs.sharpened.SharpenedSpace.remake.Goals as goal

pub remake-own-requires : goal.remake-own-requires
remake-own-requires g c =
    let guide = c.args.self.now.guide.now in
    let child = c.requires in
    rw c.space.ensures record {
      path = child.path;
      at = child.at.0;
      is_live = tree_from_sharpened (g.G.Tree.Space.live (g.G.Guide.tree guide)) (g.G.Guide.sum guide) _ child.is_live;
    }

pub follow-requires : goal.follow-requires
follow-requires g c =
    let guide = c.args.self.now.guide.now in
    let child = c.requires in
    let made = rw c.space.ensures at c.remake-own.ensures in
    let live = tree_from_sharpened (g.G.Tree.Space.live (g.G.Guide.tree guide)) (g.G.Guide.sum guide) _ child.is_live in
    record { path = child.path; stood = child.at.1; at = (made child.path child.at.0 live).0; is_live = live }

pub returns-in_default : goal.returns-in_default
returns-in_default g c = λ path at is_live.
    let guide = c.args.self.now.guide.now in
    let made = rw c.space.ensures at c.remake-own.ensures in
    let live = tree_from_sharpened (g.G.Tree.Space.live (g.G.Guide.tree guide)) (g.G.Guide.sum guide) _ is_live in
    let dead = dead_by_sum _ _ path c.args.k (c.in_default.ensures path at.1 (made path at.0 live).0 live) in
    absurd (true≢false (sym (subst (λ (o : Option ℕ). IsSome o) dead is_live)))

pub returns : goal.returns
returns g c = λ path at is_live.
    let guide = c.args.self.now.guide.now in
    let made = rw c.space.ensures at c.remake-own.ensures in
    let live = tree_from_sharpened (g.G.Tree.Space.live (g.G.Guide.tree guide)) (g.G.Guide.sum guide) _ is_live in
    let child = made path at.0 live in
    let found = c.in-Some.ensures path at.1 child.0 live in
    let is = floor_of_child _ _ path c.args.k _ _ _ c.max-child.result at.2 child.1 found.1
    (rw (c.max-child.ensures, c.max.ensures)) in
    ((child.0, found.0, is), is)
