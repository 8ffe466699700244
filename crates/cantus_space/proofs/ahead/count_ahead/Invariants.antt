-- What the count keeps.
use Rattle.std.proofs.Common.{◌≡◌, ◌+◌, ◌-◌, ◌≤◌}
use Rattle.cantus_space.specs.Rules.{starts_ahead}
use Rattle.cantus_space.proofs.ahead.count_ahead.Given as goal

-- those counted and those ahead of this bar and on are all
abbrev pub invariant-loop-bar : goal.invariant-loop-bar
invariant-loop-bar l = record {
  all : l.starts + starts_ahead l.plan (l.bar - 1) ≡ starts_ahead l.plan l.fn.count;
  few : l.starts + l.fn.count + 1 ≤ l.bar;
}
