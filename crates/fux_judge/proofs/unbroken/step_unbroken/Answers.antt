use Rattle.std.proofs.Common.{◌≡◌, ℕ, ◌-◌, subst, arith, ◌+◌, ◌++◌, ◌∷◌, [], ap, sym, ◌∙◌}
use Rattle.rule_law.specs.Voices.{has_rule}
use Rattle.fux_judge.proofs.Grows.{paid_grows}
use Rattle.fux_judge.specs.Late.{SettleNothing}
use Rattle.fux_judge.specs.Links.{own_of}
use Rattle.fux_judge.specs.Moments.{is_strictly_broken_then}
use Rattle.fux_judge.specs.Penalties.{paid}
use Rattle.fux_judge.specs.Rules.{all_sets}
use Rattle.fux_judge.proofs.FairLemmas.{told_then}
use Rattle.fux_judge.proofs.StepLemmas.{broken_at_once, broken_late, some_at_once, step_pays}
use Rattle.fux_judge.proofs.StateLemmas.{come_behind}
use Rattle.fux_judge.proofs.unbroken.step_unbroken.Goals as goal

pub settles_late_break-requires-clause-idle : goal.settles_late_break-requires-clause-idle
settles_late_break-requires-clause-idle c =
    subst (λ (i : ℕ). SettleNothing c.args.ex.now i c.args.idle.bits) (behind _ _ c.read_on.ensures.length)
    c.requires.idle
  where
    behind : (n m : ℕ) → m ≡ n + 1 → n ≡ m - 1
    behind n m e = omega (arith, e)

pub readings-paid-requires-clause-told : goal.readings-paid-requires-clause-told
readings-paid-requires-clause-told c = λ yes.
    told_then c.args.ex.now c.args.state.now c.args.col.now.items c.moment_of-moment.result
    c.moment_of-moment.ensures.exercise c.moment_of-moment.ensures.state c.moment_of-moment.ensures.column
    (c.requires.told yes) (c.requires.menu yes)

pub returns-then-settles_late_break-clause-broken : goal.returns-then-settles_late_break-clause-broken
returns-then-settles_late_break-clause-broken c = λ p st on.
    broken_late c.args.ex.now p c.args.col.now.items on
    (sym (c.settles_late_break.ensures p c.args.col.now.items record
    { reached = c.read_on.ensures.read p st; on = on }) ∙ c.if-settles_late_break.true)

pub returns-then-has_some-clause-broken : goal.returns-then-has_some-clause-broken
returns-then-has_some-clause-broken c = λ p st on.
    let col = c.args.col.now.items in
    let m = c.moment_of-moment.result in
    broken_at_once c.args.ex.now p col c.args.sheet.now m c.moment_of-moment.ensures.exercise
    c.moment_of-moment.ensures.column on
    (sym (c.settles_late_break.ensures p col record { reached = c.read_on.ensures.read p st; on = on })
    ∙ c.if-settles_late_break.false)
    ∙ sym (some_at_once (has_rule c.readings-paid.result.0.bits) (λ rule. is_strictly_broken_then all_sets rule p m)
    (c.readings-paid.ensures.broken p (c.moment_of-moment.ensures.after p st)))
    ∙ sym c.has_some.ensures ∙ c.if-has_some.true

pub returns-clause-state : goal.returns-clause-state
returns-clause-state c = λ p st. c.weigh_on.ensures.state p st (c.read_on.ensures.read p st)

pub returns-clause-unbroken : goal.returns-clause-unbroken
returns-clause-unbroken c = λ p st on.
    let col = c.args.col.now.items in
    let m = c.moment_of-moment.result in
    broken_at_once c.args.ex.now p col c.args.sheet.now m c.moment_of-moment.ensures.exercise
    c.moment_of-moment.ensures.column on
    (sym (c.settles_late_break.ensures p col record { reached = c.read_on.ensures.read p st; on = on })
    ∙ c.if-settles_late_break.false)
    ∙ sym (some_at_once (has_rule c.readings-paid.result.0.bits) (λ rule. is_strictly_broken_then all_sets rule p m)
    (c.readings-paid.ensures.broken p (c.moment_of-moment.ensures.after p st)))
    ∙ sym c.has_some.ensures ∙ c.if-has_some.false

pub returns-clause-settled : goal.returns-clause-settled
returns-clause-settled c = λ p st on.
    let col = c.args.col.now.items in
    let m = c.moment_of-moment.result in
    step_pays c.args.ex.now p col c.args.sheet.now m c.moment_of-moment.ensures.exercise
    c.moment_of-moment.ensures.column on _ _ _ _
    (c.readings-paid.ensures.paid p (c.moment_of-moment.ensures.after p st))
    (c.known_charge-own.ensures.is ∙ ap (λ i. own_of c.args.ex.now c.args.sheet.now i col) st.newest.count)
    (c.late_charges.ensures.value p col (come_behind (c.weigh_on.ensures.state p st (c.read_on.ensures.read p st)) on))
    (c.late_prices.ensures.value p col (come_behind (c.weigh_on.ensures.state p st (c.read_on.ensures.read p st)) on))

pub returns-clause-paid : goal.returns-clause-paid
returns-clause-paid c = λ p st on.
    let col = c.args.col.now.items in
    let m = c.moment_of-moment.result in
    paid_grows c.args.ex.now p col c.args.sheet.now
    ∙ ap (λ n. paid c.args.ex.now c.args.sheet.now p + n)
    (sym (step_pays c.args.ex.now p col c.args.sheet.now m c.moment_of-moment.ensures.exercise
    c.moment_of-moment.ensures.column on _ _ _ _
    (c.readings-paid.ensures.paid p (c.moment_of-moment.ensures.after p st))
    (c.known_charge-own.ensures.is ∙ ap (λ i. own_of c.args.ex.now c.args.sheet.now i col) st.newest.count)
    (c.late_charges.ensures.value p col (come_behind (c.weigh_on.ensures.state p st (c.read_on.ensures.read p st)) on))
    (c.late_prices.ensures.value p col (come_behind (c.weigh_on.ensures.state p st (c.read_on.ensures.read p st)) on))))

pub returns-clause-least : goal.returns-clause-least
returns-clause-least c = λ p st prefix.
    c.least-least.ensures.value (p ++ c.args.col.now.items ∷ [])
    (c.weigh_on.ensures.state p st (c.read_on.ensures.read p st)) prefix
