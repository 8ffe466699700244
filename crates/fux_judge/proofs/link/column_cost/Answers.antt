use Rattle.std.proofs.Common.{ℕ, ◌≤◌, ◌*◌, ap, sym, ◌∙◌, subst}
use Rattle.std.specs.Prelude.{IsSomeAnd, Option, Some, None}
use Rattle.std.specs.List.{list_any, sum_by}
use Rattle.rule_law.specs.Quiet.{is_quiet}
use Rattle.penalty_sheet.specs.Weights.{weight_of}
use Rattle.fux_judge.specs.Links.{breaks_strictly, cost_between}
use Rattle.fux_judge.proofs.LinkLemmas.{column_broken, column_whole, column_within, link_breaks, link_charges}
use Rattle.fux_judge.proofs.QuietLinks.{column_quiet}
use Rattle.fux_judge.proofs.link.column_cost.Goals as goal

pub returns-then-is_quiet-clause-value : goal.returns-then-is_quiet-clause-value
returns-then-is_quiet-clause-value c =
    column_quiet c.args.ex.now c.args.i c.args.next.now.items
    (ap (is_quiet c.args.i) (sym c.as_slice.ensures.value) ∙ sym c.if-is_quiet.ensures) c.args.sheet.now

pub returns-then-is_quiet-clause-least : goal.returns-then-is_quiet-clause-least
returns-then-is_quiet-clause-least c = λ before x e.
    subst (λ (o : Option ℕ). IsSomeAnd o (λ y. y ≤ x)) (sym (returns-then-is_quiet-clause-value c))
    (column_within c.args.ex.now c.args.i before c.args.next.now.items c.args.sheet.now x e)

pub returns-then-breaks_one-clause-value : goal.returns-then-breaks_one-clause-value
returns-then-breaks_one-clause-value c =
    let l = c.link_between-link.result in
    let is = c.link_between-link.ensures in
    column_broken c.args.ex.now c.args.i None c.args.next.now.items c.args.sheet.now
    (c.if-breaks_one.ensures ∙ link_breaks l c.args.ex c.args.i None c.args.next.now.items is.exercise is.number is.prev
    is.next c.column_rules.result.now
    ∙ ap (list_any (breaks_strictly c.args.ex.now c.args.i None c.args.next.now.items)) c.column_rules.ensures.value)

pub returns-then-breaks_one-clause-least : goal.returns-then-breaks_one-clause-least
returns-then-breaks_one-clause-least c = λ before x e.
    subst (λ (o : Option ℕ). IsSomeAnd o (λ y. y ≤ x)) (sym (returns-then-breaks_one-clause-value c))
    (column_within c.args.ex.now c.args.i before c.args.next.now.items c.args.sheet.now x e)

pub returns-clause-value : goal.returns-clause-value
returns-clause-value c =
    let l = c.link_between-link.result in
    let is = c.link_between-link.ensures in
    ap Some (c.charges.ensures.value
    ∙ link_charges l c.args.ex c.args.i None c.args.next.now.items is.exercise is.number is.prev is.next
    c.args.sheet.now c.column_tolls.result.now
    ∙ ap (sum_by (λ toll. cost_between c.args.ex.now c.args.i None c.args.next.now.items toll * weight_of
    c.args.sheet.now toll)) c.column_tolls.ensures.value)
    ∙ column_whole c.args.ex.now c.args.i None c.args.next.now.items c.args.sheet.now
    (c.if-breaks_one.ensures ∙ link_breaks l c.args.ex c.args.i None c.args.next.now.items is.exercise is.number is.prev
    is.next c.column_rules.result.now
    ∙ ap (list_any (breaks_strictly c.args.ex.now c.args.i None c.args.next.now.items)) c.column_rules.ensures.value)

pub returns-clause-least : goal.returns-clause-least
returns-clause-least c = λ before x e.
    subst (λ (o : Option ℕ). IsSomeAnd o (λ y. y ≤ x)) (sym (returns-clause-value c))
    (column_within c.args.ex.now c.args.i before c.args.next.now.items c.args.sheet.now x e)
