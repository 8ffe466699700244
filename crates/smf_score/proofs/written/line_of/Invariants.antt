use Rattle.std.proofs.Common.{◌≡◌, take}
use Rattle.fux_grid.specs.Columns.{line}
use Rattle.smf_score.proofs.written.line_of.Given as goal

-- the cells of the columns so far
abbrev pub invariant-loop-i : goal.invariant-loop-i
invariant-loop-i l = l.cells.items ≡ line l.v (take l.i l.score.columns)
