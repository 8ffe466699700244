use Rattle.fux_judge.specs.Rules.{toll_at}
use Rattle.fux_judge.proofs.late_tolls.cost_at.Goals as goal

pub returns-clause-value : goal.returns-clause-value
unfolding toll_at
returns-clause-value c = λ p col come among.
    c.cost_late.ensures.value c.requires.late p col come.reached.newest come.on among
