use Rattle.std.proofs.Common.{[], sym, ◌∙◌}
use Rattle.fux_judge.specs.Rules.{costs, toll_at}
use Rattle.fux_judge.proofs.MomentLemmas.{row_then}
use Rattle.fux_judge.proofs.StateLemmas.{parts_of}
use Rattle.fux_judge.proofs.tolls.cost.Goals as goal

pub returns-clause-value : goal.returns-clause-value
unfolding toll_at
returns-clause-value c = λ p after.
    c.cost_at_once.ensures.value c.requires.soon p [] (sym after.state.newest.count) (parts_of after.state.past) after.before
    after.latest
    ∙ row_then (costs c.args.toll c.args.m.now.exercise.now) p c.args.m.now after
