use Rattle.std.proofs.Common.{sym, ◌∙◌}
use Rattle.fux_judge.proofs.AheadLemmas.{none_allowed, starts_beside}
use Rattle.fux_judge.proofs.ahead.may_start_anew.Goals as goal

pub returns-then-not-allows_start : goal.returns-then-not-allows_start
returns-then-not-allows_start c = λ col menu e.
    sym (none_allowed c.args.ex.now c.args.v c.args.i c.requires.free
    (sym c.allows_start.ensures ∙ c.if-not-allows_start.true))

pub returns-then-is_open : goal.returns-then-is_open
returns-then-is_open c = λ col menu e.
    c.if-is_open.true
    ∙ sym (starts_beside c.args.ex.now c.args.v c.args.i col c.args.pitch c.requires.free menu e c.if-is_open.ensures
    (sym c.allows_start.ensures ∙ c.if-not-allows_start.false))
