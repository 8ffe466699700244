use Rattle.std.proofs.Common.{reverse, ap, sym, ◌∙◌}
use Rattle.rule_law.specs.Bars.{begins_bar}
use Rattle.dissonance_rules.specs.Apart.{some_come_close}
use Rattle.rhythm_cadence.specs.Rows.{begins_last_bar}
use Rattle.fux_judge.proofs.KeptLemmas.{at_a_bar, at_the_end, fair_by_tests, not_rough, where_apart, within_a_bar}
use Rattle.fux_judge.proofs.kept.left_by_tests.Goals as goal

pub returns-then-not-begins_bar-clause-kept : goal.returns-then-not-begins_bar-clause-kept
returns-then-not-begins_bar-clause-kept c = λ p after r.
    within_a_bar p c.args.m.now (fair_by_tests p c.args.m.now after
    (c.if-not-are_smooth.ensures (reverse p) after.state.past.melody) c.if-not-are_clear.ensures
    c.if-not-are_in_place.ensures) r
    (ap begins_bar (sym after.state.newest.count) ∙ sym c.if-not-begins_bar.ensures) _ c.left_within_bars.ensures.value

pub returns-then-begins_last_bar-clause-kept : goal.returns-then-begins_last_bar-clause-kept
returns-then-begins_last_bar-clause-kept c = λ p after r.
    at_the_end p c.args.m.now (fair_by_tests p c.args.m.now after
    (c.if-not-are_smooth.ensures (reverse p) after.state.past.melody) c.if-not-are_clear.ensures
    c.if-not-are_in_place.ensures) r
    _ c.left_at_the_end.ensures.value

pub returns-then-are_apart-clause-kept : goal.returns-then-are_apart-clause-kept
returns-then-are_apart-clause-kept c = λ p after r.
    where_apart p c.args.m.now (fair_by_tests p c.args.m.now after
    (c.if-not-are_smooth.ensures (reverse p) after.state.past.melody) c.if-not-are_clear.ensures
    c.if-not-are_in_place.ensures) r
    (ap (begins_last_bar c.args.m.now.exercise.now) (sym after.state.newest.count) ∙ sym c.if-begins_last_bar.ensures)
    (not_rough (some_come_close c.args.m.now.exercise.now c.args.m.now.column.now) c.if-are_apart.ensures) _
    c.left_within_bars-then-are_apart.ensures.value

pub returns-clause-kept : goal.returns-clause-kept
returns-clause-kept c = λ p after r.
    at_a_bar p c.args.m.now (fair_by_tests p c.args.m.now after
    (c.if-not-are_smooth.ensures (reverse p) after.state.past.melody) c.if-not-are_clear.ensures
    c.if-not-are_in_place.ensures) r
    (ap (begins_last_bar c.args.m.now.exercise.now) (sym after.state.newest.count) ∙ sym c.if-begins_last_bar.ensures) _
    c.left_at_a_bar.ensures.value
