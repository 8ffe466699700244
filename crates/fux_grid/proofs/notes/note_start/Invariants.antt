use Rattle.std.proofs.Common.{◌≡◌, ℕ, ◌+◌, ◌<◌, ◌≤◌, IsTrue}
use Rattle.fux_grid.specs.Cells.{is_hold, before_note}
use Rattle.fux_grid.specs.Columns.{cell_at, line, earlier}
use Rattle.fux_grid.proofs.notes.note_start.Given as goal

abbrev pub invariant-loop-j : goal.invariant-loop-j
invariant-loop-j l = record {
  within : l.j ≤ l.fn.i;
  held : (k : ℕ) → l.j < k → k ≤ l.fn.i → IsTrue (is_hold (cell_at l.score.columns l.v k));
  same : before_note (line l.v (earlier l.score.columns (l.fn.i + 1)))
      ≡ before_note (line l.v (earlier l.score.columns (l.j + 1)));
}

abbrev pub decreases-loop-j : goal.decreases-loop-j
decreases-loop-j l = l.j
