use Rattle.std.proofs.Common.{◌+◌, ◌++◌, ◌∷◌, [], ap, sym, ◌∙◌}
use Rattle.fux_judge.proofs.Grows.{paid_grows}
use Rattle.fux_judge.specs.Links.{own_of}
use Rattle.fux_judge.specs.Penalties.{paid}
use Rattle.fux_judge.proofs.StepLemmas.{step_pays}
use Rattle.fux_judge.proofs.StateLemmas.{come_behind}
use Rattle.fux_judge.proofs.unbroken.step_again.Goals as goal

pub returns-clause-settled : goal.returns-clause-settled
returns-clause-settled c = λ p st on.
    let col = c.args.col.now.items in
    let m = c.moment_of.result in
    step_pays c.args.ex.now p col c.args.sheet.now m c.moment_of.ensures.exercise
    c.moment_of.ensures.column on _ _ _ _
    (c.paid_now-at_once.ensures.paid p (c.moment_of.ensures.after p st))
    (c.requires.own.is ∙ ap (λ i. own_of c.args.ex.now c.args.sheet.now i col) st.newest.count)
    (c.late_charges.ensures.value p col (come_behind (c.add.ensures.state p st) on))
    (c.late_prices.ensures.value p col (come_behind (c.add.ensures.state p st) on))

pub returns-clause-paid : goal.returns-clause-paid
returns-clause-paid c = λ p st on.
    let col = c.args.col.now.items in
    let m = c.moment_of.result in
    paid_grows c.args.ex.now p col c.args.sheet.now
    ∙ ap (λ n. paid c.args.ex.now c.args.sheet.now p + n)
    (sym (step_pays c.args.ex.now p col c.args.sheet.now m c.moment_of.ensures.exercise
    c.moment_of.ensures.column on _ _ _ _
    (c.paid_now-at_once.ensures.paid p (c.moment_of.ensures.after p st))
    (c.requires.own.is ∙ ap (λ i. own_of c.args.ex.now c.args.sheet.now i col) st.newest.count)
    (c.late_charges.ensures.value p col (come_behind (c.add.ensures.state p st) on))
    (c.late_prices.ensures.value p col (come_behind (c.add.ensures.state p st) on))))

pub returns-clause-least : goal.returns-clause-least
returns-clause-least c = λ p st prefix.
    c.least.ensures.value (p ++ c.args.col.now.items ∷ []) (c.add.ensures.state p st) prefix
