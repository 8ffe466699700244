use Rattle.std.proofs.Common.{◌≡◌}
use Rattle.sheet_layout.specs.Pages.{rules_in}
use Rattle.sheet_layout.proofs.system.rules_in.Given as goal

-- the most of the bars so far
abbrev pub invariant-loop-bar : goal.invariant-loop-bar
invariant-loop-bar l = l.most ≡ rules_in l.marks l.voice l.line l.bar
