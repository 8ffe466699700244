use Rattle.std.proofs.Common.{◌≡◌, ◌-◌, ◌++◌, OnOk, ap, refl, subst, ◌∙◌}
use Rattle.std.specs.Int.{from_bool}
use Rattle.cantus_space.specs.Charges.{end_charges, gauge_charges}
use Rattle.cantus_space.proofs.BillLemmas.{compass_of, joined_two, line_by}
use Rattle.cantus_space.proofs.whole.put_line.Goals as goal

pub returns : goal.returns
returns c = λ behind kept.
    let sheet = c.args.plan.now.sheet in
    let prices = c.args.plan.now.prices in
    let node = c.args.node.now in
    let old = c.args.charges.now.items in
    let climax = c.saturating_sub.result in
    let compass = c.from-2.result in
    let leaps = c.leap_excess.result in
    let strikes = c.from-3.result in
    subst (λ items. OnOk c.put_ends.result (c.put_ends.new.charges.items ≡ items))
    (joined_two old (gauge_charges sheet climax compass leaps strikes)
    (end_charges prices node.len node.leaps.leaps node.top) c.put_gauges.new.charges.items c.in_ok-put_gauges.ensures
    ∙ ap (λ items. old ++ items)
    (line_by sheet prices behind node kept climax compass leaps strikes
    (c.saturating_sub.ensures ∙ ap (λ n. n - 1) (c.from.ensures ∙ kept.climax.count))
    (c.from-2.ensures ∙ ap from_bool (c.is_narrow-compass.ensures behind (compass_of sheet prices behind node kept _ refl)))
    (c.leap_excess.ensures.value behind kept.leaps) (c.from-3.ensures ∙ kept.beyond)))
    c.put_ends.ensures
