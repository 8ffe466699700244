use Rattle.floor_graphs.specs.Laws.{dead_in_tree, dead_by_sum, floor_of_child, some_from}
use Rattle.floor_graphs.proofs.sharpened.SharpenedSpace.child.Goals as goal

pub returns-in_err-node : goal.returns-in_err-node
returns-in_err-node g c = λ path at.
    let dead = rw c.space.ensures at c.in_err-node.ensures in
    rw c.from_residual.ensures (dead_in_tree _ _ path c.args.k (dead path at.0))

pub returns-in_err-place : goal.returns-in_err-place
returns-in_err-place g c = λ path at.
    let made = rw c.space.ensures at c.in_ok-node.ensures in
    let child = made path at.0 in
    let dead = c.in_err-place.ensures path at.1 child.0 (some_from _ _ child.1) in
    rw c.from_residual-in_err-place.ensures (dead_by_sum _ _ path c.args.k dead)

pub returns : goal.returns
returns g c = λ path at.
    let made = rw c.space.ensures at c.in_ok-node.ensures in
    let child = made path at.0 in
    let found = c.in_ok-place.ensures path at.1 child.0 (some_from _ _ child.1) in
    let is = floor_of_child _ _ path c.args.k _ _ _ c.max-floor.result at.2 child.1 found.1
    (rw (c.max-floor.ensures, c.max.ensures)) in
    ((child.0, found.0, is), is)
