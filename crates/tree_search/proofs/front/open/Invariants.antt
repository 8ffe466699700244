use Rattle.std.proofs.Common.{◌≡◌, ◌-◌, ◌<◌, ◌≤◌}
use Rattle.tree_search.specs.Links.{path_in}
use Rattle.tree_search.specs.Trails.{IsTrailTo, node_in}
use Rattle.tree_search.specs.Space.{IsToldBefore}
use Rattle.tree_search.specs.Fronts.{IsOpen, HasRoom, SameTaken}
use Rattle.tree_search.specs.Queues.{IsQueue}
use Rattle.tree_search.proofs.front.open.Given as goal

abbrev pub invariant-loop-from : goal.invariant-loop-from
invariant-loop-from g l =
    let space = g.S.Space in
    record {
      within : l.from ≤ l.count;
      opening : IsOpen (space.live l.space) (space.height l.space) l.front l.entry l.from;
      parent : IsTrailTo (space.is_at l.space) (space.height l.space) l.front.links.items l.trail.path.items
          l.trail.nodes l.trail.entries.items l.level l.entry;
      trail : IsTrailTo (space.is_at l.space) (space.height l.space) l.front.links.items l.trail.path.items
          l.trail.nodes l.trail.entries.items l.trail.level l.trail.entry;
      same_path : path_in l.front.links.items l.entry ≡ path_in l.initial.front.links.items l.entry;
      room : HasRoom l.budget l.front;
      queue : IsQueue l.front.waiting;
      taken : SameTaken l.initial.front l.front;
      told : l.from < l.count
          → (d : g.row.S-Node.Denot) → IsToldBefore (space.is_told l.space (node_in l.trail.nodes l.level d)) l.from;
      same_finds : l.front.finds ≡ l.initial.front.finds;
    }

abbrev pub decreases-loop-from : goal.decreases-loop-from
decreases-loop-from g l = l.count - l.from
