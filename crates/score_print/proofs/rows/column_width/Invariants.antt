use Rattle.std.proofs.Common.{◌≡◌, ◌≤◌}
use Rattle.score_print.specs.Printed.{widest_cell}
use Rattle.score_print.proofs.rows.column_width.Given as goal

-- the width of the widest cell so far
abbrev pub invariant-loop-v : goal.invariant-loop-v
invariant-loop-v l = record {
  value : l.widest ≡ widest_cell l.ex l.i l.v;
  most : l.widest ≤ 24;
}
