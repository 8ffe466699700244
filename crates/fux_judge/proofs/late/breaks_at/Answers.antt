use Rattle.fux_judge.specs.Rules.{rule_at}
use Rattle.fux_judge.proofs.StateLemmas.{parts_of}
use Rattle.fux_judge.proofs.late.breaks_at.Goals as goal

pub returns : goal.returns
unfolding rule_at
returns c = λ p col come among.
    c.breaks_late.ensures c.requires.late p col (parts_of come.reached.past) come.reached.newest come.on among
