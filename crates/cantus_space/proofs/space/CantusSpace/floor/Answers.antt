use Rattle.std.proofs.Common.{◌≡◌, ◌≤◌, length, ap, ◌∙◌, subst, arith}
use Rattle.std.specs.Prelude.{slice_index}
use Rattle.cantus_space.specs.declared.plan.CantusPlan.{CantusPlan}
use Rattle.cantus_space.specs.Known.{IsKnownOf}
use Rattle.cantus_space.specs.Rules.{floor_of, starts_ahead}
use Rattle.cantus_space.proofs.space.CantusSpace.floor.Goals as goal

pub returns : goal.returns
returns c = λ behind known.
    let node = c.args.node.now in
    let Says : CantusPlan → Type 0 = λ t. IsKnownOf t behind node → length behind ≤ t.bars
    → c.floor.result ≡ floor_of t behind in
    subst Says c.self.view_is
    (λ here few.
    let plan = c.self.inside.plan in
    let ahead : slice_index c.self.inside.ahead node.len ≡ starts_ahead plan (length behind) =
    c.self.invariant.counts node.len (omega (arith, here.kept.count, few)) ∙ ap (starts_ahead plan) here.kept.count in
    c.floor.ensures behind here.kept here.paid here.charged ahead)
    known (omega (arith, known.kept.count, c.requires.is_of.kept.count, c.requires.few))
