use Rattle.std.proofs.Common.{ℕ, ◌<◌, [], IsTrue, slice_index_or}
use Rattle.fux_grid.specs.Cells.{cell_in}
use Rattle.fux_grid.specs.Exercises.{given_at}
use Rattle.fux_grid.specs.Givens.{fits}
use Rattle.fux_grid.proofs.given.fits_at.Given as goal

abbrev pub invariant-loop-v : goal.invariant-loop-v
invariant-loop-v l =
    (v : ℕ) → v < l.v → IsTrue (fits (given_at l.ex l.i v) (cell_in (slice_index_or l.score.columns l.i []) v))
