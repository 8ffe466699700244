use Rattle.std.proofs.Common.{ℕ, ◌<◌}
use Rattle.std.specs.List.{Contains}
use Rattle.fux_grid.specs.Cells.{cell_in}
use Rattle.fux_grid.specs.Menus.{cells_at}
use Rattle.cert_check.proofs.head.is_outside_menu.Given as goal

abbrev pub invariant-loop-v : goal.invariant-loop-v
invariant-loop-v l = (v : ℕ) → v < l.v → Contains (cells_at l.ex l.i v) (cell_in l.column.items v)
