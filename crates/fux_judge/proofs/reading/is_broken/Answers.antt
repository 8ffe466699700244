use Rattle.std.proofs.Common.{[], sym, ◌∙◌}
use Rattle.fux_judge.specs.Rules.{breaks, rule_at}
use Rattle.fux_judge.proofs.MomentLemmas.{row_then}
use Rattle.fux_judge.proofs.StateLemmas.{parts_of}
use Rattle.fux_judge.proofs.reading.is_broken.Goals as goal

pub returns : goal.returns
unfolding rule_at
returns c = λ p after.
    c.breaks_at_once.ensures c.requires.rule p [] (sym after.state.newest.count) (parts_of after.state.past) after.before
    after.latest
    ∙ row_then (breaks c.args.rule c.args.m.now.exercise.now c.args.voices.bits) p c.args.m.now after
