use Rattle.std.proofs.Common.{lit<, ap, length, take, arith}
use Rattle.std.proofs.lemmas.List.{length-take-le}
use Rattle.fux_grid.specs.Givens.{fits}
use Rattle.fux_grid.proofs.Pools.{length-filter_le}
use Rattle.fux_grid.proofs.menus.fitting.Goals as goal

pub push-requires : goal.push-requires
push-requires c =
    let seen = take c.loop-cell.cell-index c.args.cells.now in
    let few = length-filter_le (fits c.args.given) seen in
    let as_many = length-take-le c.loop-cell.cell-index c.args.cells.now (omega arith) in
    (lit< tt, omega (arith, ap length c.loop-cell.invariant, few, as_many))
