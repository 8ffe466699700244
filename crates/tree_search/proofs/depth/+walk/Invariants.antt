use Rattle.std.proofs.Common.{◌≡◌, ◌+◌, ◌-◌, ◌*◌, ◌≤◌, ◌++◌, ◌∷◌, [], take}
use Rattle.tree_search.specs.Space.{IsToldBefore}
use Rattle.tree_search.specs.Walks.{IsOpenedBelow, IsBestBefore, HasOpened, HaveLength}
use Rattle.tree_search.proofs.depth.+walk.Given as goal

abbrev pub decreases-descend : goal.decreases-descend
decreases-descend g l = 2 * (g.S.Space.height l.space.now - l.level) + 1

abbrev pub decreases-enter : goal.decreases-enter
decreases-enter g l = 2 * (g.S.Space.height l.space.now - l.level)

abbrev pub invariant-descend-loop-from : goal.invariant-descend-loop-from
invariant-descend-loop-from g l =
    let space = g.S.Space in
    let path = take l.level l.initial.walk.path.items in
    record {
      within : l.from ≤ l.count;
      same_path : take l.level l.walk.path.items ≡ path;
      lengths : HaveLength (space.height l.space) l.walk.path.items l.walk.best_path.items;
      best : IsBestBefore (space.live l.space) (space.height l.space) (path ++ l.from ∷ []) l.walk.best
          l.walk.best_path.items;
      told : IsToldBefore (space.is_told l.space l.node) l.from;
      opened : HasOpened (IsOpenedBelow (space.live l.space) (space.height l.space) path l.from) l.initial.walk.left
          l.walk.left;
    }

abbrev pub decreases-descend-loop-from : goal.decreases-descend-loop-from
decreases-descend-loop-from g l = l.count - l.from
