use Rattle.std.proofs.Common.{ℕ, ◌<◌, [], IsTrue, slice_index_or}
use Rattle.fux_grid.specs.Cells.{cell_in}
use Rattle.fux_grid.specs.Exercises.{given_at}
use Rattle.fux_grid.specs.Givens.{fits}
use Rattle.fux_grid.proofs.given.fits_given.Given as goal

abbrev pub invariant-loop-i : goal.invariant-loop-i
invariant-loop-i l =
    (i v : ℕ) → i < l.i → v < l.ex.voices → IsTrue (fits (given_at l.ex i v) (cell_in (slice_index_or l.score.columns i []) v))
