use Rattle.std.proofs.Common.{◌≡◌, ◌++◌, ◌∷◌, [], Some, None, subst}
use Rattle.canon_space.specs.Paths.{IsNodeAt, history_at, live_at}
use Rattle.canon_space.specs.Tasks.{CanonTask}
use Rattle.canon_space.proofs.Children.{child_dies, child_lives}
use Rattle.canon_space.proofs.space.CanonSpaceSpace.child.Goals as goal

pub returns-in-Some : goal.returns-in-Some
returns-in-Some c = λ path here.
    let node = c.args.node.now in
    let next = c.in-Some.next in
    let k = c.args.k in
    let Lives : CanonTask → Type 0 = λ t. IsNodeAt t.canon t.sheet node path
    → IsNodeAt t.canon t.sheet next (path ++ k ∷ []) × (live_at t.canon t.sheet (path ++ k ∷ []) ≡ Some next.paid) in
    subst Lives c.self.view_is
    (λ there. child_lives c.self.inside.canon c.self.inside.sheet path k there.numbers c.requires.within next
    c.numbered_bar.result.cells c.numbered_bar.ensures (c.in-Some.ensures (history_at path) there.here)) here

pub returns-in-None : goal.returns-in-None
returns-in-None c = λ path here.
    let node = c.args.node.now in
    let k = c.args.k in
    let Dies : CanonTask → Type 0 = λ t. IsNodeAt t.canon t.sheet node path
    → live_at t.canon t.sheet (path ++ k ∷ []) ≡ None in
    subst Dies c.self.view_is
    (λ there. child_dies c.self.inside.canon c.self.inside.sheet path k c.numbered_bar.result.cells
    c.numbered_bar.ensures (c.in-None.ensures (history_at path) there.here)) here
