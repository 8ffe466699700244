use Rattle.std.proofs.Common.{◌≡◌, take, vec_capacity}
use Rattle.fux_grid.specs.Grid.{items_of}
use Rattle.fux_grid.specs.Menus.{combinations}
use Rattle.fux_grid.proofs.menus.all_combinations.Given as goal

abbrev pub invariant-loop-k : goal.invariant-loop-k
invariant-loop-k l = record {
  room : vec_capacity l.columns ≡ l.width;
  made : items_of l.columns.items ≡ take l.k (combinations (items_of l.choices));
}
