use Rattle.std.proofs.Common.{◌≡◌, ◌-◌, ◌++◌, map}
use Rattle.fux_grid.specs.Menus.{note_cell, pool_of}
use Rattle.fux_grid.proofs.Pools.{pool_from}
use Rattle.fux_grid.proofs.menus.add_pool.Given as goal

abbrev pub invariant-loop-key : goal.invariant-loop-key
invariant-loop-key l =
    l.cells.items ++ map (note_cell l.starts) (pool_from l.ex l.v l.bar l.key (97 - l.key))
    ≡ l.fn.cells.items ++ map (note_cell l.starts) (pool_of l.ex l.v l.bar)
