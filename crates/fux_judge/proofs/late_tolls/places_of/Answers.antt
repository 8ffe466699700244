use Rattle.std.proofs.Common.{arith, ◌-◌}
use Rattle.fux_judge.proofs.Facts.{toll_keeps}
use Rattle.fux_judge.proofs.late_tolls.places_of.Goals as goal

pub returns-clause-within : goal.returns-clause-within
returns-clause-within c =
    omega (
      arith,
      c.places_at.ensures.first,
      c.places_at.ensures.count,
      (toll_keeps c.args.toll).within c.args.ex.now
          (c.args.next.now.newest.len - 1),
      c.requires.begun,
    )
