use Rattle.std.proofs.Common.{◌≡◌, ◌≤◌, length, map, take}
use Rattle.std.specs.Prelude.{vec_capacity}
use Rattle.floor_tables.specs.Tables.{Task}
use Rattle.price_check.specs.Floors.{AreFor, list_of}
use Rattle.price_check.specs.Woven.{AreOf, list_priced}
use Rattle.price_check.proofs.woven.list_floors.Given as goal

abbrev pub invariant-loop-j : goal.invariant-loop-j
invariant-loop-j l = record {
  lists : map list_of l.floors.items ≡ map list_priced (take l.j l.lists);
  space : (task : Task) → AreOf task l.lists → AreFor task.exercise task.sheet l.floors.items;
  count : length l.floors.items ≡ l.j;
  room : length l.lists ≤ vec_capacity l.floors;
}
