use Rattle.std.proofs.Common.{◌≡◌, ◌≤◌, length, map, take}
use Rattle.std.specs.Prelude.{vec_capacity}
use Rattle.fux_grid.specs.Grid.{items_of}
use Rattle.chain_sums.specs.Packed.{packed}
use Rattle.chain_sums.proofs.menu.packed_columns.Given as goal

abbrev pub invariant-loop-k : goal.invariant-loop-k
invariant-loop-k l = record {
  room : length l.columns ≤ vec_capacity l.numbers;
  numbers : l.numbers.items ≡ map packed (items_of (take l.k l.columns));
}
