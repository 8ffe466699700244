use Rattle.std.proofs.Common.{◌≡◌, ◌<◌, ◌++◌, [], length, get_or, drop}
use Rattle.fux_grid.specs.Grid.{items_of}
use Rattle.fux_grid.specs.Menus.{combinations}
use Rattle.fux_grid.proofs.menus.combination.Given as goal

abbrev pub invariant-loop-cells : goal.invariant-loop-cells
invariant-loop-cells l = record {
  taken : length l.column.items ≡ l.cells-index;
  sized : l.size ≡ length (combinations (items_of (drop l.cells-index l.choices)));
  within : l.rest < l.size;
  same : l.column.items ++ get_or (combinations (items_of (drop l.cells-index l.choices))) l.rest []
      ≡ get_or (combinations (items_of l.choices)) l.k [];
}
