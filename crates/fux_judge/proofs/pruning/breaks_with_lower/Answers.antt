use Rattle.std.proofs.Common.{◌≡◌, ℕ, ⊎_elim, subst, arith}
use Rattle.std.proofs.lemmas.Bool.{cases_lt}
use Rattle.fux_judge.specs.Pruning.{IsFairPair}
use Rattle.fux_judge.proofs.pruning.breaks_with_lower.Goals as goal

pub loop-lower-preserved : goal.loop-lower-preserved
loop-lower-preserved c = λ v lt.
    ⊎_elim (λ less. c.loop-lower.invariant v less)
    (λ more.
    let same : c.loop-lower.lower ≡ v = omega (arith, lt, more) in
    subst (λ (w : ℕ). IsFairPair w c.args.voice c.args.ex.now c.args.state.now c.args.col.now.items) same
    c.if-breaks_together.ensures.fair)
    (cases_lt v c.loop-lower.lower)

pub returns-clause-fair : goal.returns-clause-fair
returns-clause-fair c = λ lower lt. c.loop-lower.invariant lower (omega (arith, lt, c.loop-lower-test.false))
