use Rattle.std.proofs.Common.{sym, subst}
use Rattle.cert_law.specs.Cases.{matter_of}
use Rattle.cert_law.specs.Known.{IsBehindKnown, IsKnown, IsStepOf, Tailed, tailed_of}
use Rattle.cert_law.proofs.KnownLemmas.{step_goes_on, step_place, step_small, step_within}
use Rattle.cert_law.proofs.tailed.TailedCaseClaimTree.behind.Goals as goal

pub known_after-requires-clause-room : goal.known_after-requires-clause-room
known_after-requires-clause-room g c =
    let it = c.self.inside in
    let basis = g.T.Tails.basis it.tails.now in
    let tailed = tailed_of (matter_of it.case) basis in
    step_place tailed basis c.args.known.now c.args.number c.self.invariant.case c.self.invariant.has
    (subst (λ (t : Tailed). IsStepOf t c.args.number c.args.known.now) (sym c.self.view_is) c.requires)

pub known_after-requires-clause-within : goal.known_after-requires-clause-within
known_after-requires-clause-within g c =
    let it = c.self.inside in
    let basis = g.T.Tails.basis it.tails.now in
    let tailed = tailed_of (matter_of it.case) basis in
    step_within tailed basis c.args.known.now c.args.number c.self.invariant.case c.self.invariant.has
    (subst (λ (t : Tailed). IsStepOf t c.args.number c.args.known.now) (sym c.self.view_is) c.requires)

pub known_after-requires-clause-small : goal.known_after-requires-clause-small
known_after-requires-clause-small g c =
    let it = c.self.inside in
    let basis = g.T.Tails.basis it.tails.now in
    let tailed = tailed_of (matter_of it.case) basis in
    step_small tailed basis c.args.known.now c.args.number c.self.invariant.case c.self.invariant.has
    (subst (λ (t : Tailed). IsStepOf t c.args.number c.args.known.now) (sym c.self.view_is) c.requires)

pub returns : goal.returns
returns g c =
    let it = c.self.inside in
    let basis = g.T.Tails.basis it.tails.now in
    let tailed = tailed_of (matter_of it.case) basis in
    let step = subst (λ (t : Tailed). IsStepOf t c.args.number c.args.known.now) (sym c.self.view_is) c.requires in
    subst (λ (t : Tailed). IsBehindKnown t c.args.known.now c.args.number (IsKnown t c.known_after.result))
    c.self.view_is
    (λ p is at. c.known_after.ensures p is
    (step_goes_on tailed basis c.args.known.now c.args.number c.self.invariant.case c.self.invariant.has step p is at))
