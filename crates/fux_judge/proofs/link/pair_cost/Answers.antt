use Rattle.std.proofs.Common.{ap, sym, ◌∙◌}
use Rattle.std.specs.Prelude.{Some}
use Rattle.rule_law.specs.Quiet.{is_quiet}
use Rattle.fux_judge.specs.Links.{given, pair_rules, pair_tolls}
use Rattle.fux_judge.proofs.LinkLemmas.{link_breaks, link_charges, pair_broken, pair_whole}
use Rattle.fux_judge.proofs.QuietLinks.{pair_quiet}
use Rattle.fux_judge.proofs.link.pair_cost.Goals as goal

pub returns-then-is_quiet-clause-value : goal.returns-then-is_quiet-clause-value
returns-then-is_quiet-clause-value c =
    pair_quiet c.args.ex.now c.args.i (given c.args.prev) c.args.next.now.items
    (ap (is_quiet c.args.i) (sym c.as_slice.ensures.value) ∙ sym c.if-is_quiet.ensures) c.args.sheet.now

pub returns-then-breaks_pair_rule-clause-value : goal.returns-then-breaks_pair_rule-clause-value
returns-then-breaks_pair_rule-clause-value c =
    let l = c.link_between-link.result in
    let is = c.link_between-link.ensures in
    pair_broken c.args.ex.now c.args.i (given c.args.prev) c.args.next.now.items c.args.sheet.now
    (c.if-breaks_pair_rule.ensures ∙ link_breaks l c.args.ex c.args.i c.args.prev c.args.next.now.items is.exercise
    is.number is.prev is.next pair_rules)

pub returns-clause-value : goal.returns-clause-value
returns-clause-value c =
    let l = c.link_between-link.result in
    let is = c.link_between-link.ensures in
    ap Some (c.pair_charges.ensures.value
    ∙ link_charges l c.args.ex c.args.i c.args.prev c.args.next.now.items is.exercise is.number is.prev is.next
    c.args.sheet.now pair_tolls)
    ∙ pair_whole c.args.ex.now c.args.i (given c.args.prev) c.args.next.now.items c.args.sheet.now
    (c.if-breaks_pair_rule.ensures ∙ link_breaks l c.args.ex c.args.i c.args.prev c.args.next.now.items is.exercise
    is.number is.prev is.next pair_rules)
