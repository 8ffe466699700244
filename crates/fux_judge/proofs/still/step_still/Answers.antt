use Rattle.std.proofs.Common.{◌≡◌, ℕ, ◌-◌, ◌+◌, subst, arith, length, ap, sym, ◌∙◌}
use Rattle.fux_grid.specs.Menus.{IsInMenu}
use Rattle.fux_judge.specs.Late.{SettleNothing}
use Rattle.fux_judge.specs.Penalties.{paid}
use Rattle.fux_judge.specs.Still.{IsStillPlace}
use Rattle.fux_judge.proofs.Grows.{paid_grows}
use Rattle.fux_judge.proofs.StillLemmas.{least_still, still_is_quiet}
use Rattle.fux_judge.proofs.StillSteps.{still_breaks, still_pays}
use Rattle.fux_judge.proofs.StateLemmas.{come_behind}
use Rattle.fux_judge.proofs.still.step_still.Goals as goal

pub settles_late_break-requires-clause-idle : goal.settles_late_break-requires-clause-idle
settles_late_break-requires-clause-idle c =
    subst (λ (i : ℕ). SettleNothing c.args.ex.now i c.args.idle.bits) (behind _ _ c.add_still.ensures.length) c.requires.idle
  where
    behind : (n m : ℕ) → m ≡ n + 1 → n ≡ m - 1
    behind n m e = omega (arith, e)

pub returns-then-settles_late_break-clause-broken : goal.returns-then-settles_late_break-clause-broken
returns-then-settles_late_break-clause-broken c = λ p st on.
    let ex = c.args.ex.now in
    let col = c.args.col.now.items in
    let still = subst (λ (i : ℕ). IsStillPlace ex i) st.newest.count c.requires.still in
    let menu = subst (λ (i : ℕ). IsInMenu ex i col) st.newest.count c.requires.menu in
    still_breaks ex p col on (still_is_quiet ex (length p) still col menu)
    ∙ sym (c.settles_late_break.ensures p col (come_behind (c.add_still.ensures.state p st) on))
    ∙ c.if-settles_late_break.true

pub returns-then-settles_late_break-clause-least : goal.returns-then-settles_late_break-clause-least
returns-then-settles_late_break-clause-least c = λ p st prefix.
    let ex = c.args.ex.now in
    let col = c.args.col.now.items in
    least_still ex p col (omega (arith, c.requires.room, st.newest.count))
    (subst (λ (i : ℕ). IsStillPlace ex i) st.newest.count c.requires.still)
    (subst (λ (i : ℕ). IsInMenu ex i col) st.newest.count c.requires.menu) c.args.sheet.now

pub returns-clause-unbroken : goal.returns-clause-unbroken
returns-clause-unbroken c = λ p st on.
    let ex = c.args.ex.now in
    let col = c.args.col.now.items in
    let still = subst (λ (i : ℕ). IsStillPlace ex i) st.newest.count c.requires.still in
    let menu = subst (λ (i : ℕ). IsInMenu ex i col) st.newest.count c.requires.menu in
    still_breaks ex p col on (still_is_quiet ex (length p) still col menu)
    ∙ sym (c.settles_late_break.ensures p col (come_behind (c.add_still.ensures.state p st) on))
    ∙ c.if-settles_late_break.false

pub returns-clause-settled : goal.returns-clause-settled
returns-clause-settled c = λ p st on.
    let ex = c.args.ex.now in
    let col = c.args.col.now.items in
    let still = subst (λ (i : ℕ). IsStillPlace ex i) st.newest.count c.requires.still in
    let menu = subst (λ (i : ℕ). IsInMenu ex i col) st.newest.count c.requires.menu in
    still_pays ex p col on (still_is_quiet ex (length p) still col menu) c.requires.valid.cantus_there c.args.sheet.now _ _
    (c.pattern_charge.ensures.value p col (come_behind (c.add_still.ensures.state p st) on))
    (c.late_prices.ensures.value p col (come_behind (c.add_still.ensures.state p st) on))

pub returns-clause-paid : goal.returns-clause-paid
returns-clause-paid c = λ p st on.
    paid_grows c.args.ex.now p c.args.col.now.items c.args.sheet.now
    ∙ ap (λ n. paid c.args.ex.now c.args.sheet.now p + n) (sym (returns-clause-settled c p st on))

pub returns-clause-least : goal.returns-clause-least
returns-clause-least c = λ p st prefix.
    let ex = c.args.ex.now in
    let col = c.args.col.now.items in
    least_still ex p col (omega (arith, c.requires.room, st.newest.count))
    (subst (λ (i : ℕ). IsStillPlace ex i) st.newest.count c.requires.still)
    (subst (λ (i : ℕ). IsInMenu ex i col) st.newest.count c.requires.menu) c.args.sheet.now
