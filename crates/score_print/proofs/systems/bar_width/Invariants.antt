use Rattle.std.proofs.Common.{◌≡◌, ◌≤◌, ◌+◌, ◌*◌}
use Rattle.score_print.specs.Systems.{bar_width}
use Rattle.score_print.proofs.systems.bar_width.Given as goal

-- the width of the slots so far
abbrev pub invariant-loop-slot : goal.invariant-loop-slot
invariant-loop-slot l = record {
  value : l.width ≡ bar_width l.ex l.bar l.slot;
  most : l.width ≤ 2 + 25 * l.slot;
}
