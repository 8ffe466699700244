use Rattle.std.proofs.Common.{◌≡◌, drop}
use Rattle.fux_grid.specs.Order.{column_order}
use Rattle.fux_grid.proofs.reading_order.order.Given as goal

abbrev pub invariant-loop-v : goal.invariant-loop-v
invariant-loop-v l = column_order l.a.items l.b.items ≡ column_order (drop l.v l.a.items) (drop l.v l.b.items)
