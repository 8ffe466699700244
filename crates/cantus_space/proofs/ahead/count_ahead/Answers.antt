use Rattle.std.proofs.Common.{◌≡◌, ◌≤◌, ◌<◌, ◌+◌, ◌-◌, ap, ◌∙◌, arith}
use Rattle.std.specs.Prelude.{cond}
use Rattle.rule_law.proofs.MenuStarts.{as_number, as_number-bound}
use Rattle.cantus_space.specs.Ahead.{starts_ahead-more}
use Rattle.cantus_space.specs.Rules.{can_start, starts_ahead}
use Rattle.cantus_space.proofs.ahead.count_ahead.Goals as goal

pub overflow_add-starts : goal.overflow_add-starts
overflow_add-starts c =
    let one : c.from-starts.result ≤ 1 = omega (arith, c.from-starts.ensures, as_number-bound c.can_start.result) in
    omega (arith, one, c.loop-bar.invariant.few, c.loop-bar-test.true, c.requires.plan.most_bars)

pub loop-bar-preserved : goal.loop-bar-preserved
loop-bar-preserved c =
    let plan = c.args.plan.now in
    let bar = c.loop-bar.bar in
    let one : c.from-starts.result ≤ 1 = omega (arith, c.from-starts.ensures, as_number-bound c.can_start.result) in
    let before : bar - 1 < plan.bars = omega (arith, c.loop-bar.invariant.few, c.loop-bar-test.true) in
    let here : bar - 1 + 1 ≡ bar = omega (arith, c.loop-bar.invariant.few) in
    let next : bar + 1 - 1 ≡ bar = omega arith in
    let own : c.from-starts.result ≡ cond (can_start plan bar) 1 0 =
    c.from-starts.ensures ∙ as_number c.can_start.result ∙ ap (λ b. cond b 1 0) c.can_start.ensures
    in
    let step : starts_ahead plan (bar - 1) ≡ cond (can_start plan bar) 1 0 + starts_ahead plan bar =
    starts_ahead-more plan (bar - 1) before ∙ ap (λ n. cond (can_start plan n) 1 0 + starts_ahead plan n) here
    in
    record {
      all = ap (λ n. c.loop-bar.starts + c.from-starts.result + starts_ahead plan n) next
          ∙ omega (arith, own, step, c.loop-bar.invariant.all);
      few = omega (arith, one, c.loop-bar.invariant.few);
    }
