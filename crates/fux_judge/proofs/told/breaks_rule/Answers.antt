use Rattle.std.proofs.Common.{◌≡◌, ◌==◌, true, ap, sym, ◌∙◌}
use Rattle.std.specs.List.{list_any}
use Rattle.std.proofs.lemmas.Bool.{OnTrue_from, and_from}
use Rattle.fux_judge.specs.Penalties.{newly_broken}
use Rattle.fux_judge.specs.Rules.{is_read, late_rules, rules_at_once}
use Rattle.fux_judge.proofs.ToldLemmas.{at_once_among, late_among, strictly_newly}
use Rattle.fux_judge.proofs.told.breaks_rule.Goals as goal

pub breaks_late_rule-requires-clause-late : goal.breaks_late_rule-requires-clause-late
breaks_late_rule-requires-clause-late c =
    (late_among c.args.rule
    (sym (c.contains.ensures.value ∙ ap (list_any (λ y. y == c.args.rule)) c.every_late_rule.ensures.value)
    ∙ c.if-contains.true)).0

pub returns-then-contains : goal.returns-then-contains
returns-then-contains c = OnTrue_from c.breaks_late_rule.result _ (λ h. λ p st on.
    let rule = c.args.rule in
    let among : list_any (λ y. y == rule) late_rules ≡ true =
    sym (c.contains.ensures.value ∙ ap (list_any (λ y. y == rule)) c.every_late_rule.ensures.value)
    ∙ c.if-contains.true in
    and_from (is_read rule) (newly_broken c.args.ex.now p c.args.col.now.items rule) (late_among rule among).1
    (sym (c.breaks_late_rule.ensures p st on) ∙ h))

pub is_strictly_broken_now-requires-clause-rule : goal.is_strictly_broken_now-requires-clause-rule
is_strictly_broken_now-requires-clause-rule c =
    (at_once_among c.args.rule
    (sym (c.contains-2.ensures.value ∙ ap (list_any (λ y. y == c.args.rule)) c.all_at_once.ensures.value)
    ∙ c.if-not-contains.false)).0

pub returns : goal.returns
returns c = OnTrue_from c.is_strictly_broken_now.result _ (λ h. λ p st on.
    let ex = c.args.ex.now in
    let col = c.args.col.now.items in
    let m = c.moment_of-moment.result in
    let rule = c.args.rule in
    let among : list_any (λ y. y == rule) rules_at_once ≡ true =
    sym (c.contains-2.ensures.value ∙ ap (list_any (λ y. y == rule)) c.all_at_once.ensures.value)
    ∙ c.if-not-contains.false in
    let told = at_once_among rule among in
    and_from (is_read rule) (newly_broken ex p col rule) told.1
    (sym (strictly_newly ex p col m c.moment_of-moment.ensures.exercise c.moment_of-moment.ensures.column rule told.0)
    ∙ sym (c.is_strictly_broken_now.ensures p (c.moment_of-moment.ensures.after p st)) ∙ h))
