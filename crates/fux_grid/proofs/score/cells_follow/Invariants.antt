use Rattle.std.proofs.Common.{ℕ, ◌<◌, IsTrue}
use Rattle.fux_grid.specs.Cells.{cell_in, cell_follows}
use Rattle.fux_grid.proofs.score.cells_follow.Given as goal

abbrev pub invariant-loop-v : goal.invariant-loop-v
invariant-loop-v l = (k : ℕ) → k < l.v → IsTrue (cell_follows (cell_in l.prev k) (cell_in l.next k))
