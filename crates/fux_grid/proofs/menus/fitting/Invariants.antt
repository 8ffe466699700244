use Rattle.std.proofs.Common.{◌≡◌, filter, take}
use Rattle.fux_grid.specs.Givens.{fits}
use Rattle.fux_grid.proofs.menus.fitting.Given as goal

abbrev pub invariant-loop-cell : goal.invariant-loop-cell
invariant-loop-cell l = l.kept.items ≡ filter (fits l.given) (take l.cell-index l.cells)
