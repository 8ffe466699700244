use Rattle.std.proofs.Common.{◌≡◌, ◌+◌, ◌-◌, [], length, ap, sym, ◌∙◌, subst, arith}
use Rattle.cantus_space.specs.declared.plan.CantusPlan.{CantusPlan}
use Rattle.cantus_space.specs.Known.{IsFirstOfPool, pool_from}
use Rattle.cantus_space.proofs.PoolSteps.{pool-at, pool-end, pool-passed}
use Rattle.cantus_space.proofs.space.CantusSpace.next_of_pool.Goals as goal

pub returns-then-from-ge-PITCHES : goal.returns-then-from-ge-PITCHES
returns-then-from-ge-PITCHES c = λ behind known.
    pool-end c.args.self.now (length behind + 1) c.args.from (omega (arith, c.if-from-ge-PITCHES.true))

pub returns-then-number-ge-PITCHES : goal.returns-then-number-ge-PITCHES
returns-then-number-ge-PITCHES c = λ behind known.
    let plan = c.self.inside.plan in
    let from = c.args.from in
    let number = c.next_of_pool-number.result in
    let found = c.next_of_pool-number.ensures in
    let Says : CantusPlan → Type 0 = λ t. pool_from t (length behind + 1) from ≡ [] in
    subst Says c.self.view_is
    (ap (λ n. pool_from plan (n + 1) from) (sym known.kept.count)
    ∙ pool-passed plan (c.args.node.now.len + 1) (number - from) from number (omega (arith, found.onward)) found.bound
    found.passed
    ∙ pool-end plan (c.args.node.now.len + 1) number (omega (arith, c.if-number-ge-PITCHES.true)))

pub returns : goal.returns
returns c = λ behind known.
    let plan = c.self.inside.plan in
    let from = c.args.from in
    let number = c.next_of_pool-number.result in
    let found = c.next_of_pool-number.ensures in
    let p = c.numbered_pitch.result in
    let Says : CantusPlan → Type 0 = λ t. IsFirstOfPool t (length behind + 1) from number p in
    subst Says c.self.view_is
    (subst (λ n. IsFirstOfPool plan (n + 1) from number p) known.kept.count
    (pool-at plan (c.args.node.now.len + 1) from number found.onward (omega (arith, c.if-number-ge-PITCHES.false))
    found.passed (found.found (omega (arith, c.if-number-ge-PITCHES.false))) p c.numbered_pitch.ensures))
