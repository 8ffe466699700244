use Rattle.std.proofs.Common.{ℕ, ◌<◌, IsTrue}
use Rattle.fux_grid.specs.Cells.{cell_in, cell_follows}
use Rattle.fux_grid.proofs.score.Score.misfit.Given as goal

abbrev pub invariant-loop-v : goal.invariant-loop-v
invariant-loop-v l = (k : ℕ) → k < l.v → IsTrue (cell_follows (cell_in l.newest k) (cell_in l.col.items k))
