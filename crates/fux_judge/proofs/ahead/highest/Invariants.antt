use Rattle.std.proofs.Common.{◌≡◌, ◌<◌, ◌≤◌, ℕ, true}
use Rattle.std.specs.Prelude.{pos}
use Rattle.fux_grid.specs.Menus.{range_of}
use Rattle.melody_rules.specs.Gauges.{is_at_top}
use Rattle.fux_judge.proofs.ahead.highest.Given as goal

abbrev pub invariant-loop-bar : goal.invariant-loop-bar
invariant-loop-bar l =
    (key : ℕ) → l.highest ≤ key → (b : ℕ) → 1 ≤ b → b < l.bar → is_at_top (pos key) (range_of l.ex l.v b) ≡ true
