use Rattle.std.proofs.Common.{◌≡◌}
use Rattle.score_print.specs.Shown.{bar_goes_on}
use Rattle.score_print.proofs.shown.bar_goes_on.Given as goal

-- the columns so far go on
abbrev pub invariant-loop-slot : goal.invariant-loop-slot
invariant-loop-slot l = l.all ≡ bar_goes_on l.ex l.bar l.slot
