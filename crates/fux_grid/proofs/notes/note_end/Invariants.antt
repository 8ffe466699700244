use Rattle.std.proofs.Common.{ℕ, ◌<◌, IsTrue}
use Rattle.fux_grid.specs.Cells.{is_hold}
use Rattle.fux_grid.specs.Columns.{cell_at}
use Rattle.fux_grid.proofs.notes.note_end.Given as goal

abbrev pub invariant-loop-j : goal.invariant-loop-j
invariant-loop-j l = (k : ℕ) → l.i < k → k < l.j → IsTrue (is_hold (cell_at l.score.columns l.v k))
