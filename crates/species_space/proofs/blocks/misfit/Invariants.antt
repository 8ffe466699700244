use Rattle.std.proofs.Common.{ℕ, ◌<◌, IsTrue}
use Rattle.fux_grid.specs.Cells.{cell_in, cell_follows}
use Rattle.species_space.proofs.blocks.misfit.Given as goal

-- the voices so far follow
abbrev pub invariant-loop-v : goal.invariant-loop-v
invariant-loop-v l = (k : ℕ) → k < l.v → IsTrue (cell_follows (cell_in l.before k) (cell_in l.column.items k))
