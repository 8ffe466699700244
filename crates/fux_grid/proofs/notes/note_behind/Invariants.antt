use Rattle.std.proofs.Common.{◌≡◌, ◌+◌, ◌≤◌}
use Rattle.fux_grid.specs.Cells.{notes_from}
use Rattle.fux_grid.specs.Columns.{line, earlier}
use Rattle.fux_grid.proofs.notes.note_behind.Given as goal

abbrev pub invariant-loop-j : goal.invariant-loop-j
invariant-loop-j l = record {
  within : l.held + l.j ≤ l.fn.n;
  same : notes_from 0 (line l.v (earlier l.score.columns l.fn.n))
      ≡ notes_from l.held (line l.v (earlier l.score.columns l.j));
}

abbrev pub decreases-loop-j : goal.decreases-loop-j
decreases-loop-j l = l.j
