use Rattle.std.proofs.Common.{◌≡◌, ◌++◌, ◌∷◌, [], Some, None, ap, ◌∙◌, subst, length, arith}
use Rattle.std.specs.Prelude.{slice_index}
use Rattle.cantus_space.specs.declared.plan.CantusPlan.{CantusPlan}
use Rattle.cantus_space.specs.Paths.{IsNodeAt, history_at, live_at}
use Rattle.cantus_space.specs.Rules.{starts_ahead}
use Rattle.cantus_space.proofs.Children.{child_dies, child_lives}
use Rattle.cantus_space.proofs.space.CantusSpaceSpace.child.Goals as goal

pub returns-in-Some : goal.returns-in-Some
returns-in-Some c = λ path here.
    let node = c.args.node.now in
    let next = c.in-Some.next in
    let k = c.args.k in
    let Lives : CantusPlan → Type 0 = λ t. IsNodeAt t node path
    → IsNodeAt t next (path ++ k ∷ []) × (live_at t (path ++ k ∷ []) ≡ Some c.floor.result) in
    subst Lives c.self.view_is
    (λ there.
    let plan = c.self.inside.plan in
    let p = c.numbered_pitch.result in
    let of = c.in-Some.ensures (history_at plan path) there.here in
    let ahead : slice_index c.self.inside.ahead next.len ≡ starts_ahead plan (length (p ∷ history_at plan path)) =
    c.self.invariant.counts next.len (omega (arith, of.kept.count, of.few)) ∙ ap (starts_ahead plan) of.kept.count in
    child_lives plan path k there.numbers c.requires.within next p c.floor.result c.numbered_pitch.ensures of
    (c.floor.ensures (p ∷ history_at plan path) of.kept of.paid of.charged ahead)) here

pub returns-in-None : goal.returns-in-None
returns-in-None c = λ path here.
    let node = c.args.node.now in
    let k = c.args.k in
    let Dies : CantusPlan → Type 0 = λ t. IsNodeAt t node path → live_at t (path ++ k ∷ []) ≡ None in
    subst Dies c.self.view_is
    (λ there. child_dies c.self.inside.plan path k c.numbered_pitch.result c.numbered_pitch.ensures
    (c.in-None.ensures (history_at c.self.inside.plan path) there.here)) here
