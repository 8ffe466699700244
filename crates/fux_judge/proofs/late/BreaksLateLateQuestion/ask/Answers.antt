use Rattle.std.proofs.Common.{sym, ◌∙◌}
use Rattle.fux_judge.proofs.LateLemmas.{as_far}
use Rattle.fux_judge.proofs.late.BreaksLateLateQuestion.ask.Goals as goal

pub returns-then-has : goal.returns-then-has
returns-then-has c = λ test of.
    sym (c.requires.ready.1 c.args.rule (sym c.has.ensures ∙ c.if-has.true) of.prefix of.column
    (sym (as_far c.args.self.now.exercise.now c.args.self.now.next.now of.prefix of.column of.come)) of.come.on)
    ∙ sym (of.same c.args.rule)

pub returns : goal.returns
returns c = λ test of.
    c.is_broken_late.ensures of.prefix of.column of.come ∙ sym (of.same c.args.rule)
