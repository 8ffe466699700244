use Rattle.std.proofs.Common.{◌≡◌, ◌<◌, ◌+◌, ◌++◌, ◌∷◌, [], ℕ, List, Some, None, length, refl, ap, sym, subst, ◌∙◌, arith}
use Rattle.std.proofs.lemmas.List.{length_push}
use Rattle.std.proofs.lemmas.List.Sorted.{length_permutation}
use Rattle.tree_search.specs.Finds.{kept}
use Rattle.tree_search.specs.Links.{path_in}
use Rattle.tree_search.specs.declared.finds.Finds.{Finds}
use Rattle.tree_search.specs.declared.links.Link.{Link}
use Rattle.tree_search.proofs.Loads.{many_loaded}
use Rattle.tree_search.proofs.Trails.{is_there, leads_kept, level_is, made_below, never_both, node_of, parent_kept, trail_child, trail_parent, trail_stays}
use Rattle.tree_search.proofs.Searches.{IsOpen-add, IsOpen-passed, path_stays}
use Rattle.tree_search.proofs.front.take_child.Goals as goal

pub make_child-requires-clause-within : goal.make_child-requires-clause-within
make_child-requires-clause-within g c =
    subst (λ (p : List ℕ). c.args.k < g.S.Space.width c.args.space.now p) (sym c.requires.parent.leads)
    (omega (arith, c.requires.count, c.requires.within))

pub returns-in_default-clause-open : goal.returns-in_default-clause-open
returns-in_default-clause-open g c =
    let live = g.S.Space.live c.args.space.now in
    let links = c.args.front.now.links.items in
    let dead = subst (λ (p : List ℕ). live (p ++ c.args.k ∷ []) ≡ None) c.requires.parent.leads
    c.in_default.ensures.made in
    IsOpen-passed (g.met.S.Space.floors_grow c.args.space.now) c.requires.open.0 c.requires.open.1 (c.args.k + 1)
    (omega arith)
    (λ j floor from to there.
    let same : j ≡ c.args.k = omega (arith, from, to) in
    never_both _ floor dead
    (subst (λ (n : ℕ). live (path_in links c.args.opened.entry ++ n ∷ []) ≡ Some floor) same there))

pub returns-in_default-clause-parent : goal.returns-in_default-clause-parent
returns-in_default-clause-parent g c = parent_kept c.in_default.ensures.kept c.requires.parent

pub returns-in_default-clause-trail : goal.returns-in_default-clause-trail
returns-in_default-clause-trail g c = leads_kept c.in_default.ensures.kept c.requires.trail

pub returns-then-len-budget-clause-spent : goal.returns-then-len-budget-clause-spent
returns-then-len-budget-clause-spent g c =
    let made = made_below c.requires.parent (g.S.Space.live c.args.space.now) c.args.k _ _ c.in-Some.ensures.made in
    many_loaded (g.met.S.Space.floors_grow c.args.space.now) c.requires.open.0.front c.args.opened.entry c.args.k _
    c.args.budget c.requires.open.1 refl made.1
    (omega (arith, c.len.ensures, c.if-len-budget.true, c.args.front.now.links.ok.0))

pub returns-then-len-budget-clause-parent : goal.returns-then-len-budget-clause-parent
returns-then-len-budget-clause-parent g c = parent_kept c.in-Some.ensures.kept c.requires.parent

pub returns-then-len-budget-clause-trail : goal.returns-then-len-budget-clause-trail
returns-then-len-budget-clause-trail g c = leads_kept c.in-Some.ensures.kept c.requires.trail

pub next_after-next-requires-clause-child : goal.next_after-next-requires-clause-child
next_after-next-requires-clause-child g c = record {
  path = path_in c.args.front.now.links.items c.args.opened.entry;
  at = node_of (parent_kept c.in-Some.ensures.kept c.requires.parent) c.node_at.result.now
      (c.node_at.ensures c.node_at.result.now);
  above = omega (arith, level_is c.requires.parent, c.requires.above);
  within = omega (arith, c.requires.count, c.requires.within);
}

pub returns-then-floor-least-clause-open : goal.returns-then-floor-least-clause-open
returns-then-floor-least-clause-open g c =
    let more = c.add.ensures in
    let live = g.S.Space.live c.args.space.now in
    let grows = g.met.S.Space.floors_grow c.args.space.now in
    let is = (made_below c.requires.parent live c.args.k _ _ c.in-Some.ensures.made).1 in
    let stays = path_stays grows c.requires.open.0 c.requires.open.1 more.waiting _ more.links in
    let added = IsOpen-add grows c.requires.open.0 c.requires.open.1
    more.waiting _ _ _ more.links (ap (λ (finds : Finds). finds.most) more.finds)
    (ap (λ (finds : Finds). kept finds) more.finds) is in
    IsOpen-passed grows added.0 added.1 c.next_after-next.result (omega (arith, c.next_after-next.ensures.onward))
    (λ j floor from to there. c.next_after-next.ensures.passed _
    (node_of (parent_kept c.in-Some.ensures.kept c.requires.parent) c.node_at.result.now
    (c.node_at.ensures c.node_at.result.now)) (is_there _ _ is) j floor
    (omega (arith, from)) to
    (subst (λ (p : List ℕ). live (p ++ j ∷ []) ≡ Some floor) stays there))

pub returns-then-floor-least-clause-path : goal.returns-then-floor-least-clause-path
returns-then-floor-least-clause-path g c =
    path_stays (g.met.S.Space.floors_grow c.args.space.now) c.requires.open.0 c.requires.open.1
    c.add.ensures.waiting _ c.add.ensures.links

pub returns-then-floor-least-clause-taken : goal.returns-then-floor-least-clause-taken
returns-then-floor-least-clause-taken g c =
    let links = ap (λ (xs : List Link). length xs) c.add.ensures.links
    ∙ length_push c.args.front.now.links.items _ in
    omega (arith, links, length_permutation _ _ c.add.ensures.waiting)

pub returns-clause-open : goal.returns-clause-open
returns-clause-open g c =
    let more = c.add.ensures in
    let live = g.S.Space.live c.args.space.now in
    let grows = g.met.S.Space.floors_grow c.args.space.now in
    let is = (made_below c.requires.parent live c.args.k _ _ c.in-Some.ensures.made).1 in
    let stays = path_stays grows c.requires.open.0 c.requires.open.1 more.waiting _ more.links in
    let added = IsOpen-add grows c.requires.open.0 c.requires.open.1
    more.waiting _ _ _ more.links (ap (λ (finds : Finds). finds.most) more.finds)
    (ap (λ (finds : Finds). kept finds) more.finds) is in
    IsOpen-passed grows added.0 added.1 c.next_after-next.result (omega (arith, c.next_after-next.ensures.onward))
    (λ j floor from to there. c.next_after-next.ensures.passed _
    (node_of (parent_kept c.in-Some.ensures.kept c.requires.parent) c.node_at.result.now
    (c.node_at.ensures c.node_at.result.now)) (is_there _ _ is) j floor
    (omega (arith, from)) to
    (subst (λ (p : List ℕ). live (p ++ j ∷ []) ≡ Some floor) stays there))

pub returns-clause-path : goal.returns-clause-path
returns-clause-path g c =
    path_stays (g.met.S.Space.floors_grow c.args.space.now) c.requires.open.0 c.requires.open.1
    c.add.ensures.waiting _ c.add.ensures.links

pub returns-clause-taken : goal.returns-clause-taken
returns-clause-taken g c =
    let links = ap (λ (xs : List Link). length xs) c.add.ensures.links
    ∙ length_push c.args.front.now.links.items _ in
    omega (arith, links, length_permutation _ _ c.add.ensures.waiting)

pub returns-then-floor-least-clause-parent : goal.returns-then-floor-least-clause-parent
returns-then-floor-least-clause-parent g c =
    trail_stays (parent_kept c.in-Some.ensures.kept c.requires.parent) _ _ c.add.ensures.links

pub returns-then-floor-least-clause-trail : goal.returns-then-floor-least-clause-trail
returns-then-floor-least-clause-trail g c =
    trail_stays (leads_kept c.in-Some.ensures.kept c.requires.trail) _ _ c.add.ensures.links

pub returns-clause-parent : goal.returns-clause-parent
returns-clause-parent g c =
    let made = made_below c.requires.parent (g.S.Space.live c.args.space.now) c.args.k _ _ c.in-Some.ensures.made in
    trail_parent (parent_kept c.in-Some.ensures.kept c.requires.parent) c.requires.above c.args.k _ made.0 _
    c.place.ensures.nodes _ _ _ _ c.add.ensures.links c.place.ensures.path c.place.ensures.entries
    (omega (arith, c.len-2.ensures, c.add.new.front.links.ok.0))

pub returns-clause-trail : goal.returns-clause-trail
returns-clause-trail g c =
    let made = made_below c.requires.parent (g.S.Space.live c.args.space.now) c.args.k _ _ c.in-Some.ensures.made in
    trail_child (parent_kept c.in-Some.ensures.kept c.requires.parent) c.requires.above c.args.k _ made.0 _
    c.place.ensures.nodes _ _ _ _ c.add.ensures.links c.place.ensures.path c.place.ensures.entries
    (omega (arith, c.len-2.ensures, c.add.new.front.links.ok.0)) _ _ c.place.ensures.level c.place.ensures.entry

pub returns-in_default-clause-node : goal.returns-in_default-clause-node
returns-in_default-clause-node g c = λ d.
    c.in_default.ensures.kept.nodes.same c.args.opened.level d (omega arith)

pub returns-then-len-budget-clause-node : goal.returns-then-len-budget-clause-node
returns-then-len-budget-clause-node g c = λ d. c.in-Some.ensures.kept.nodes.same c.args.opened.level d (omega arith)

pub returns-then-floor-least-clause-node : goal.returns-then-floor-least-clause-node
returns-then-floor-least-clause-node g c = λ d. c.in-Some.ensures.kept.nodes.same c.args.opened.level d (omega arith)

pub returns-clause-node : goal.returns-clause-node
returns-clause-node g c = λ d.
    c.place.ensures.nodes.kept.same c.args.opened.level d (omega arith)
    ∙ c.in-Some.ensures.kept.nodes.same c.args.opened.level d (omega arith)
