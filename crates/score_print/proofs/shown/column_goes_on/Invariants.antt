use Rattle.std.proofs.Common.{◌≡◌}
use Rattle.score_print.specs.Shown.{column_goes_on}
use Rattle.score_print.proofs.shown.column_goes_on.Given as goal

-- the voices so far go on
abbrev pub invariant-loop-v : goal.invariant-loop-v
invariant-loop-v l = l.all ≡ column_goes_on l.ex l.i l.v
