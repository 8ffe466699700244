use Rattle.std.proofs.Math.Seq.{take-length}
use Rattle.std.proofs.Common.{is_some, sym, take, ◌≡◌, ◌+◌, ℕ, [], length, refl, ap, subst, ◌∙◌, arith}
use Rattle.std.proofs.lemmas.List.Sorted.{length_permutation}
use Rattle.tree_search.specs.Answer.{Many, IsLoaded}
use Rattle.tree_search.specs.Links.{path_in}
use Rattle.tree_search.specs.Finds.{kept}
use Rattle.tree_search.specs.Fronts.{floor_in}
use Rattle.tree_search.specs.Queues.{entries}
use Rattle.tree_search.proofs.Floors.{none_from}
use Rattle.tree_search.proofs.Trails.{level_is}
use Rattle.tree_search.proofs.Searches.{few_from_dead, starts, IsClosed-leaf, IsOpen-first, floor_is, floor_live, taken_within}
use Rattle.tree_search.proofs.Nth.{at_end, numbered_only, only_none, settled, spent_at}
use Rattle.tree_search.proofs.front.search_nth.Goals as goal

pub returns-in_default : goal.returns-in_default
returns-in_default g c =
    let grows = g.met.S.Space.floors_grow c.args.space.now in
    let live = g.S.Space.live c.args.space.now in
    let height = g.S.Space.height c.args.space.now in
    let told = numbered_only live height c.args.nth c.args.budget 0
    (only_none live height c.args.nth c.requires
    (λ path value leaf. none_from grows [] path value c.in_default.ensures leaf.1 (path, refl)))
    (few_from_dead grows c.args.budget c.in_default.ensures) in
    record {
      found = told.found;
      only = told.only;
      over = told.over;
      found_load = told.found_load;
      only_load = told.only_load;
      spent = told.spent;
      least = told.least;
      bound = told.bound;
    }

pub pops-init : goal.pops-init
pops-init g c =
    let made = c.in_ok-front.ensures in
    let front = c.in_ok-front.front in
    record {
      closed = starts (g.S.Space.live c.args.space.now) (g.S.Space.height c.args.space.now) front.finds.most _ _
          (entries front.waiting) (kept front.finds) c.in-Some.ensures.1 made.links made.none made.waiting;
      trail = rw made.links c.in_ok-trail.ensures;
      room = made.room;
      queue = made.queue;
      finds = made.finds;
      most = made.most;
    }

pub returns-then-are_lower : goal.returns-then-are_lower
returns-then-are_lower g c =
    let popped = c.in-Some-take.ensures in
    let kept = c.pops.invariant in
    let told = settled (g.met.S.Space.floors_grow c.args.space.now) kept.closed.1 c.args.nth c.args.budget kept.most
    kept.room.0 popped.taken popped.least c.if-are_lower.ensures.lower c.ended.result c.ended.ensures in
    record {
      found = told.found;
      only = told.only;
      over = told.over;
      found_load = told.found_load;
      only_load = told.only_load;
      spent = told.spent;
      least = told.least;
      bound = told.bound;
    }

pub go_to-requires-clause-within : goal.go_to-requires-clause-within
go_to-requires-clause-within g c =
    let popped = c.in-Some-take.ensures in
    rw c.deref.ensures.value
    (taken_within (g.met.S.Space.floors_grow c.args.space.now) c.pops.invariant.closed.1 popped.taken popped.least)

pub go_to-requires-clause-live : goal.go_to-requires-clause-live
go_to-requires-clause-live g c =
    let popped = c.in-Some-take.ensures in
    rw c.deref.ensures.value (ap is_some
    (floor_live (g.met.S.Space.floors_grow c.args.space.now) c.pops.invariant.closed.1 popped.taken popped.least))

pub pops-smaller-in-Continue-branch-3 : goal.pops-smaller-in-Continue-branch-3
pops-smaller-in-Continue-branch-3 g c =
    omega (arith, length_permutation _ _ c.in-Some-take.ensures.taken, c.pops.invariant.room.0)

pub pops-preserved-in-Continue-branch-3 : goal.pops-preserved-in-Continue-branch-3
pops-preserved-in-Continue-branch-3 g c =
    let grows = g.met.S.Space.floors_grow c.args.space.now in
    let now = c.pops.front in
    let old = c.pops.invariant in
    let entry = c.in-Some-take.entry in
    let popped = c.in-Some-take.ensures in
    let trail = rw (c.deref.ensures.value, c.go_to.ensures.entry) at c.go_to.ensures.trail in
    let deep : c.go_to.new.trail.level ≡ g.S.Space.height c.args.space.now =
    c.if-trail-depth.true ∙ c.depth-depth.ensures.value in
    let long : length (path_in now.links.items entry) ≡ g.S.Space.height c.args.space.now = level_is trail ∙ deep in
    let whole_level : c.go_to.new.trail.level ≡ length c.go_to.new.trail.path.items =
    deep ∙ sym trail.trail.path_long in
    let path = c.deref-then-trail-depth.ensures.value
    ∙ sym (ap (λ (n : ℕ). take n c.go_to.new.trail.path.items) whole_level
    ∙ take-length c.go_to.new.trail.path.items)
    ∙ trail.leads in
    let opened = IsOpen-first grows old.closed.1 popped.taken popped.least in
    let floor = floor_is grows old.closed.1 popped.taken popped.least in
    let more = rw path at c.in_ok-put.ensures.put in
    record {
      closed = (
        floor_in (g.S.Space.live c.args.space.now) now.links.items entry,
        rw c.in_ok-put.ensures.most (IsClosed-leaf grows opened.0 opened.1 floor long more),
      );
      trail = rw c.go_to.ensures.entry trail;
      room = (
        old.room.0,
        omega (arith, old.room.1, length_permutation _ _ popped.taken),
        old.room.2,
        omega (arith, old.room.3, popped.capacity),
      );
      queue = popped.queue;
      finds = c.in_ok-put.ensures.finds;
      most = c.in_ok-put.ensures.most ∙ old.most;
    }

pub open-requires-clause-open : goal.open-requires-clause-open
open-requires-clause-open g c =
    let popped = c.in-Some-take.ensures in
    rw c.go_to.ensures.entry
    (IsOpen-first (g.met.S.Space.floors_grow c.args.space.now) c.pops.invariant.closed.1 popped.taken popped.least)

pub open-requires-clause-room : goal.open-requires-clause-room
open-requires-clause-room g c =
    let room = c.pops.invariant.room in
    let popped = c.in-Some-take.ensures in (
      room.0,
      omega (arith, room.1, length_permutation _ _ popped.taken),
      room.2,
      omega
          (arith, room.3, popped.capacity),
    )

pub returns-then-not-open : goal.returns-then-not-open
returns-then-not-open g c =
    let live = g.S.Space.live c.args.space.now in
    let grows = g.met.S.Space.floors_grow c.args.space.now in
    let old = c.pops.invariant in
    let popped = c.in-Some-take.ensures in
    let many = subst (λ (f : ℕ). Many (IsLoaded live f) (c.args.budget + 1))
    (floor_is grows old.closed.1 popped.taken popped.least) (rw c.go_to.ensures.entry at c.if-not-open.ensures.spent) in
    let told = spent_at grows old.closed.1 c.args.nth c.args.budget old.most old.room.0 c.requires popped.taken
    popped.least old.finds.1 c.if-are_lower.ensures.not_lower many in
    record {
      found = told.found;
      only = told.only;
      over = told.over;
      found_load = told.found_load;
      only_load = told.only_load;
      spent = told.spent;
      least = told.least;
      bound = told.bound;
    }

pub pops-smaller : goal.pops-smaller
pops-smaller g c =
    omega (
      arith,
      length_permutation _ _ c.in-Some-take.ensures.taken,
      c.if-not-open.ensures.taken,
      c.if-not-open.ensures.room.0,
      c.pops.invariant.room.0,
    )

pub returns : goal.returns
returns g c =
    let kept = c.pops.invariant in
    let told = at_end (g.met.S.Space.floors_grow c.args.space.now) kept.closed.1 c.args.nth c.args.budget kept.most
    kept.room.0 c.in_default-take.ensures.none c.ended-2.result c.ended-2.ensures in
    record {
      found = told.found;
      only = told.only;
      over = told.over;
      found_load = told.found_load;
      only_load = told.only_load;
      spent = told.spent;
      least = told.least;
      bound = told.bound;
    }
