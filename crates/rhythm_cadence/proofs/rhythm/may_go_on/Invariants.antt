use Rattle.std.proofs.Common.{◌≡◌, ◌<◌, take}
use Rattle.rhythm_cadence.specs.Parts.{shapes_begun}
use Rattle.rhythm_cadence.proofs.rhythm.may_go_on.Given as goal

abbrev pub invariant-loop-j : goal.invariant-loop-j
invariant-loop-j l = l.i < l.j → l.possible ≡ shapes_begun l.ex l.v (take l.j l.score.columns)
