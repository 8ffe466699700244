use Rattle.std.proofs.Common.{[], ◌∷◌, ◌++◌}
use Rattle.floor_graphs.specs.Laws.{live_from_sharpened}
use Rattle.floor_graphs.proofs.Better.{no_better_above}
use Rattle.floor_graphs.proofs.sharpened.SharpenedSpace.next_child.Goals as goal

pub returns-clause-passed : goal.returns-clause-passed
returns-clause-passed g c = λ path at child floor from to live.
    let passed = rw c.space.ensures at c.next_child.ensures.passed in
    let own = live_from_sharpened _ _ (path ++ child ∷ []) floor live in
    no_better_above c.args.best own.0 floor own.2 (passed path at.0 child own.0 from to own.1)

pub returns-clause-told : goal.returns-clause-told
returns-clause-told g c = λ path at lt.
    let told = rw c.space.ensures at c.next_child.ensures.told in
    told path at.0 lt
