use Rattle.fux_grid.proofs.GivenLemmas.{AscendTo}
use Rattle.fux_grid.proofs.given.given_ascend.Given as goal

abbrev pub invariant-loop-k : goal.invariant-loop-k
invariant-loop-k l = AscendTo l.lines l.k
