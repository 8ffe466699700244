use Rattle.std.proofs.Common.{arith, ◌-◌}
use Rattle.fux_judge.specs.Rules.{rule_at}
use Rattle.fux_judge.proofs.Facts.{rule_keeps}
use Rattle.fux_judge.proofs.LateLemmas.{among_places}
use Rattle.fux_judge.proofs.StateLemmas.{parts_of}
use Rattle.fux_judge.proofs.late.places_left.Goals as goal

pub returns-clause-within : goal.returns-clause-within
unfolding rule_at
returns-clause-within c =
    omega (
      arith,
      c.places_left.ensures.to c.requires.late,
      (rule_keeps c.args.rule).within c.args.ex.now
          (c.args.next.now.newest.len - 1),
      c.requires.begun,
    )

pub returns-clause-left : goal.returns-clause-left
unfolding rule_at
returns-clause-left c = λ p col come voices i h.
    c.places_left.ensures.left c.requires.late p col (parts_of come.reached.past) come.reached.newest come.on voices i
    (among_places c.args.rule c.args.ex.now p col c.requires.late come.on voices i h) h
