use Rattle.std.proofs.Common.{◌≡◌}
use Rattle.score_print.specs.Shown.{is_undivided}
use Rattle.score_print.proofs.shown.is_undivided.Given as goal

-- the bars so far go on
abbrev pub invariant-loop-bar : goal.invariant-loop-bar
invariant-loop-bar l = l.all ≡ is_undivided l.ex l.bar
