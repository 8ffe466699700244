use Rattle.std.proofs.Common.{◌≡◌, ℕ, ◌+◌, ◌-◌, length}
use Rattle.tree_search.specs.Trails.{IsTrailTo}
use Rattle.tree_search.specs.Fronts.{IsClosed, HasRoom}
use Rattle.tree_search.specs.Finds.{IsFinds}
use Rattle.tree_search.specs.Queues.{IsQueue, entries}
use Rattle.tree_search.proofs.front.search_nth.Given as goal

abbrev pub invariant-pops : goal.invariant-pops
invariant-pops g l =
    let space = g.S.Space in
    record {
      closed : (reached : ℕ) × IsClosed (space.live l.space) (space.height l.space) l.front reached;
      trail : IsTrailTo (space.is_at l.space) (space.height l.space) l.front.links.items l.trail.path.items
          l.trail.nodes l.trail.entries.items l.trail.level l.trail.entry;
      room : HasRoom l.budget l.front;
      queue : IsQueue l.front.waiting;
      finds : IsFinds l.front.finds;
      most : l.front.finds.most ≡ l.nth;
    }

abbrev pub decreases-pops : goal.decreases-pops
decreases-pops g l = l.budget + length (entries l.front.waiting) - length l.front.links.items
