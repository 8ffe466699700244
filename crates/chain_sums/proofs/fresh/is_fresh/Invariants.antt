use Rattle.std.proofs.Common.{◌≡◌, ◌<◌, ℕ, false}
use Rattle.fux_grid.specs.Cells.{cell_in, is_hold}
use Rattle.chain_sums.proofs.fresh.is_fresh.Given as goal

abbrev pub invariant-loop-cell : goal.invariant-loop-cell
invariant-loop-cell l = (v : ℕ) → v < l.cell-index → is_hold (cell_in l.column v) ≡ false
