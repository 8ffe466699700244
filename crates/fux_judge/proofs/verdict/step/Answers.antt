use Rattle.std.proofs.Common.{◌++◌, ◌∷◌, [], ◌+◌, ◌||◌, ◌==◌, ◌&&◌, ap, sym, true≢false, ◌∙◌}
use Rattle.std.specs.List.{list_any}
use Rattle.fux_judge.specs.Links.{own_of}
use Rattle.fux_judge.specs.Penalties.{paid}
use Rattle.fux_judge.proofs.Grows.{paid_grows}
use Rattle.fux_judge.specs.Rules.{late_rules}
use Rattle.fux_judge.specs.Steps.{breaks_late}
use Rattle.fux_judge.proofs.StepLemmas.{step_breaks, step_pays}
use Rattle.fux_judge.proofs.StateLemmas.{come_behind}
use Rattle.fux_judge.proofs.verdict.step.Goals as goal

pub readings-paid-requires-clause-told : goal.readings-paid-requires-clause-told
readings-paid-requires-clause-told c = λ h. absurd (true≢false (sym h))

pub returns-clause-broken : goal.returns-clause-broken
returns-clause-broken c = λ p st on r.
    let after = c.moment_of-moment.ensures.after p st in
    let col = c.args.col.now.items in
    let m = c.moment_of-moment.result in
    c.with_late-broken.ensures p col (come_behind (c.add.ensures.state p st) on) r
    ∙ ap (λ b. b || list_any (λ rule. breaks_late c.args.ex.now p col rule && r == rule) late_rules)
    (c.readings-paid.ensures.broken p after r)
    ∙ step_breaks c.args.ex.now p col c.args.sheet.now m c.moment_of-moment.ensures.exercise
    c.moment_of-moment.ensures.column on r

pub returns-clause-settled : goal.returns-clause-settled
returns-clause-settled c = λ p st on.
    let after = c.moment_of-moment.ensures.after p st in
    let col = c.args.col.now.items in
    let m = c.moment_of-moment.result in
    step_pays c.args.ex.now p col c.args.sheet.now m c.moment_of-moment.ensures.exercise
    c.moment_of-moment.ensures.column on _ _ _ _
    (c.readings-paid.ensures.paid p after)
    (c.own_charge-own.ensures.is ∙ ap (λ i. own_of c.args.ex.now c.args.sheet.now i col) st.newest.count)
    (c.late_charges.ensures.value p col (come_behind (c.add.ensures.state p st) on))
    (c.late_prices.ensures.value p col (come_behind (c.add.ensures.state p st) on))

pub returns-clause-paid : goal.returns-clause-paid
returns-clause-paid c = λ p st on.
    let after = c.moment_of-moment.ensures.after p st in
    let col = c.args.col.now.items in
    let m = c.moment_of-moment.result in
    paid_grows c.args.ex.now p col c.args.sheet.now
    ∙ ap (λ n. paid c.args.ex.now c.args.sheet.now p + n)
    (sym (step_pays c.args.ex.now p col c.args.sheet.now m c.moment_of-moment.ensures.exercise
    c.moment_of-moment.ensures.column on _ _ _ _
    (c.readings-paid.ensures.paid p after)
    (c.own_charge-own.ensures.is ∙ ap (λ i. own_of c.args.ex.now c.args.sheet.now i col) st.newest.count)
    (c.late_charges.ensures.value p col (come_behind (c.add.ensures.state p st) on))
    (c.late_prices.ensures.value p col (come_behind (c.add.ensures.state p st) on))))

pub returns-clause-least : goal.returns-clause-least
returns-clause-least c = λ p st prefix. c.least-least.ensures.value (p ++ c.args.col.now.items ∷ [])
    (c.add.ensures.state p st) prefix
