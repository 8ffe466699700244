use Rattle.std.proofs.Common.{◌≡◌, ◌≤◌, ◌+◌, ◌-◌, ◌*◌}
use Rattle.std.specs.List.{range_with_len}
use Rattle.score_print.specs.Systems.{system_width}
use Rattle.score_print.proofs.systems.system_width.Given as goal

-- the width so far, and that of the bars that are left
abbrev pub invariant-loop-bar : goal.invariant-loop-bar
invariant-loop-bar l = record {
  value : l.width + system_width l.ex l.slots (range_with_len l.bar (l.end - l.bar))
      ≡ system_width l.ex l.slots (range_with_len l.first (l.end - l.first));
  most : l.width ≤ 202 * l.bar;
}
