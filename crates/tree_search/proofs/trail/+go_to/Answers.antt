use Rattle.std.proofs.Common.{rules, ◌-◌, ◌<◌, ◌≤◌, ◌++◌, ◌∷◌, [], List, ℕ, IsSome, length, take, get_or, sym, ap, subst, ◌∙◌, arith}
use Rattle.tree_search.specs.Links.{path_in}
use Rattle.tree_search.specs.declared.links.Link.{Link}
use Rattle.tree_search.proofs.Arena.{path_by_link}
use Rattle.tree_search.proofs.Trails.{above_child, parent_live, trail_on, trail_up}
use Rattle.tree_search.proofs.trail.+go_to.Goals as goal

-- the path of the entry, by its link
pub go_to-requires : goal.go_to-requires
go_to-requires g t c κs within =
    let links = c.args.links.now in
    let none : Link = record { parent = 0; child = 0 } in
    let some : 0 < c.args.entry =
    omega (arith, c.level_before-level.ensures.reached c.index.result.now, c.index.ensures, c.if-trail-entry.false) in
    let earlier : (get_or links (c.args.entry - 1) none).parent ≤ length links =
    omega (arith, c.requires.linked (c.args.entry - 1) none (omega (arith, some, c.requires.within)), c.requires.within) in
    let live = parent_live (g.met.S.Space.floors_grow c.args.space.now) links c.args.entry none c.requires.linked some
    c.requires.within c.requires.live in
    let trail = trail_up c.requires.trail c.level_before-level.result c.level_before-level.ensures.up
    c.index.result.now c.index.ensures in
    search rules

pub step-requires-clause-live : goal.step-requires-clause-live
step-requires-clause-live g t c =
    let links = c.args.links.now in
    let none : Link = record { parent = 0; child = 0 } in
    let link : Link = get_or links (c.args.entry - 1) none in
    let some : 0 < c.args.entry =
    omega (arith, c.level_before-level.ensures.reached c.index.result.now, c.index.ensures, c.if-trail-entry.false) in
    let is = path_by_link links c.args.entry none c.requires.linked some c.requires.within in
    subst (λ (p : List ℕ). IsSome (g.S.Space.live c.args.space.now p))
    (is ∙ ap (λ (p : List ℕ). p ++ link.child ∷ [])
    (sym (c.go_to.ensures.trail.leads ∙ ap (path_in links) c.go_to.ensures.entry)))
    c.requires.live

pub returns-clause-trail : goal.returns-clause-trail
returns-clause-trail g t c =
    let links = c.args.links.now in
    let none : Link = record { parent = 0; child = 0 } in
    let link : Link = get_or links (c.args.entry - 1) none in
    let some : 0 < c.args.entry =
    omega (arith, c.level_before-level.ensures.reached c.index.result.now, c.index.ensures, c.if-trail-entry.false) in
    let is = path_by_link links c.args.entry none c.requires.linked some c.requires.within in
    let parent = c.go_to.ensures.trail in
    let live : IsSome (g.S.Space.live c.args.space.now
    (take c.go_to.new.trail.level c.go_to.new.trail.path.items ++ link.child ∷ [])) =
    subst (λ (p : List ℕ). IsSome (g.S.Space.live c.args.space.now p))
    (is ∙ ap (λ (p : List ℕ). p ++ link.child ∷ [])
    (sym (parent.leads ∙ ap (path_in links) c.go_to.ensures.entry)))
    c.requires.live in
    rw c.step.ensures.entry
    (trail_on parent link.child c.args.entry _ _ _ _
    (above_child (g.met.S.Space.floors_grow c.args.space.now) parent.trail link.child live)
    c.step.ensures.trail c.step.ensures.path c.step.ensures.entries c.step.ensures.level c.requires.within
    (is ∙ ap (λ (e : ℕ). path_in links e ++ link.child ∷ []) (sym c.go_to.ensures.entry)))
