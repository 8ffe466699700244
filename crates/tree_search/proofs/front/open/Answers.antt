use Rattle.std.proofs.Common.{◌≡◌, ℕ, List, subst, sym, ap, ◌∙◌, arith}
use Rattle.tree_search.specs.Fronts.{IsClosed, floor_of}
use Rattle.tree_search.specs.Links.{path_in}
use Rattle.tree_search.proofs.Trails.{node_of, level_is}
use Rattle.tree_search.proofs.Searches.{IsOpen-passed, IsClosed-opened}
use Rattle.tree_search.proofs.front.open.Goals as goal

pub count-count-requires : goal.count-count-requires
count-count-requires g c = record {
  path = path_in c.args.front.now.links.items c.args.trail.now.entry;
  at = node_of c.requires.trail c.node_at.result.now (c.node_at.ensures c.node_at.result.now);
  above = omega (arith, level_is c.requires.trail, c.requires.above);
}

pub next_child-k-requires-clause-child : goal.next_child-k-requires-clause-child
next_child-k-requires-clause-child g c =
    let kept = c.loop-from.invariant in
    let space = c.args.space.now in
    let width = ap (g.S.Space.width space) kept.same_path in
    let count = c.count-count.ensures.value _
    (node_of c.requires.trail c.node_at.result.now (c.node_at.ensures c.node_at.result.now)) in
    let node = c.node_at-in-loop-from.result.now in
    record {
      path = path_in c.loop-from.front.links.items c.args.trail.now.entry;
      at = node_of kept.parent node (c.node_at-in-loop-from.ensures node);
      above = omega (arith, level_is kept.parent, c.requires.above);
      within = omega (arith, width, count, c.loop-from-test.true);
    }

pub next_child-k-requires-clause-before : goal.next_child-k-requires-clause-before
next_child-k-requires-clause-before g c = λ j e.
    let node = c.node_at-in-loop-from.result.now in
    subst (λ (x : g.row.S-Node.Denot). g.S.Space.is_told c.args.space.now x j)
    (sym (c.node_at-in-loop-from.ensures node))
    (c.loop-from.invariant.told c.loop-from-test.true node j e)

pub take_child-next-requires-clause-told : goal.take_child-next-requires-clause-told
take_child-next-requires-clause-told g c = λ d.
    let kept = c.loop-from.invariant in
    let space = c.args.space.now in
    let width = ap (g.S.Space.width space) kept.same_path in
    let count = c.count-count.ensures.value _
    (node_of c.requires.trail c.node_at.result.now (c.node_at.ensures c.node_at.result.now)) in
    let node = c.node_at-in-loop-from.result.now in
    subst (λ (x : g.row.S-Node.Denot). g.S.Space.is_told space x c.next_child-k.result)
    (c.node_at-in-loop-from.ensures d)
    (c.next_child-k.ensures.told _ (node_of kept.parent node (c.node_at-in-loop-from.ensures node))
    (omega (arith, width, count, c.if-k-count.false)))

pub loop-from-preserved : goal.loop-from-preserved
loop-from-preserved g c =
    let kept = c.loop-from.invariant in
    let more = c.in-Some.ensures in
    let space = c.args.space.now in
    record {
      within = more.within;
      opening = more.open;
      parent = more.parent;
      trail = more.trail;
      same_path = more.path ∙ kept.same_path;
      room = more.room;
      queue = more.queue;
      taken = omega (arith, more.taken, kept.taken);
      told = λ lt d j e.
          let width = ap (g.S.Space.width space) kept.same_path in
          let count = c.count-count.ensures.value _
          (node_of c.requires.trail c.node_at.result.now (c.node_at.ensures c.node_at.result.now)) in
          let node = c.node_at-in-loop-from.result.now in
          let same : c.next_child-k.result ≡ j = omega (arith, more.behind lt, e) in
          subst (λ (x : g.row.S-Node.Denot). g.S.Space.is_told space x j)
          (c.node_at-in-loop-from.ensures d ∙ sym (more.node d))
          (subst (λ (n : ℕ). g.S.Space.is_told space node n) same
          (c.next_child-k.ensures.told _ (node_of kept.parent node (c.node_at-in-loop-from.ensures node))
          (omega (arith, width, count, c.if-k-count.false))));
      same_finds = more.finds ∙ kept.same_finds;
    }

pub take_child-next-requires-clause-open : goal.take_child-next-requires-clause-open
take_child-next-requires-clause-open g c =
    let kept = c.loop-from.invariant in
    let node = c.node_at-in-loop-from.result.now in
    IsOpen-passed (g.met.S.Space.floors_grow c.args.space.now) kept.opening.0 kept.opening.1 c.next_child-k.result
    c.next_child-k.ensures.onward
    (c.next_child-k.ensures.passed _ (node_of kept.parent node (c.node_at-in-loop-from.ensures node)))

pub returns-then-k-count-clause-closed : goal.returns-then-k-count-clause-closed
returns-then-k-count-clause-closed g c =
    let kept = c.loop-from.invariant in
    let space = c.args.space.now in
    let now = c.loop-from.front in
    let grows = g.met.S.Space.floors_grow space in
    let width = ap (g.S.Space.width space) kept.same_path in
    let count = c.count-count.ensures.value _ (node_of c.requires.trail c.node_at.result.now (c.node_at.ensures c.node_at.result.now)) in
    let node = node_of kept.parent c.node_at-in-loop-from.result.now (c.node_at-in-loop-from.ensures c.node_at-in-loop-from.result.now) in
    let last = IsOpen-passed grows kept.opening.0 kept.opening.1 c.next_child-k.result
    c.next_child-k.ensures.onward (c.next_child-k.ensures.passed _ node) in
    subst (λ (r : ℕ). IsClosed (g.S.Space.live space) (g.S.Space.height space) now r)
    (ap (λ (p : List ℕ). floor_of (g.S.Space.live space p)) kept.same_path)
    (IsClosed-opened grows last.0 last.1
    (omega (arith, width, count, c.if-k-count.true))
    (omega (arith, level_is kept.parent, c.requires.above)))

pub returns-clause-closed : goal.returns-clause-closed
returns-clause-closed g c =
    let kept = c.loop-from.invariant in
    let space = c.args.space.now in
    let now = c.loop-from.front in
    let width = ap (g.S.Space.width space) kept.same_path in
    let count = c.count-count.ensures.value _ (node_of c.requires.trail c.node_at.result.now (c.node_at.ensures c.node_at.result.now)) in
    subst (λ (r : ℕ). IsClosed (g.S.Space.live space) (g.S.Space.height space) now r)
    (ap (λ (p : List ℕ). floor_of (g.S.Space.live space p)) kept.same_path)
    (IsClosed-opened (g.met.S.Space.floors_grow space) kept.opening.0 kept.opening.1
    (omega (arith, width, count, c.loop-from-test.false))
    (omega (arith, level_is kept.parent, c.requires.above)))
