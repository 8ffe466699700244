use Rattle.fux_judge.specs.Late.{HaveNoPlace}
use Rattle.fux_judge.proofs.late.without_place.Given as goal

abbrev pub invariant-loop-rule : goal.invariant-loop-rule
invariant-loop-rule l = HaveNoPlace l.ex l.i l.idle.bits
