use Rattle.std.proofs.Common.{◌≡◌, ◌≤◌, length, map, take}
use Rattle.std.specs.Prelude.{vec_capacity}
use Rattle.price_check.specs.Woven.{AreOf, list_priced}
use Rattle.price_check.specs.Owned.{list_owned}
use Rattle.price_check.proofs.woven.priced_lists.Given as goal

abbrev pub invariant-loop-k : goal.invariant-loop-k
invariant-loop-k l = record {
  lists : map list_priced l.lists.items ≡ map list_owned (take l.k l.own);
  space : AreOf l.space l.lists.items;
  room : length l.own ≤ vec_capacity l.lists;
  count : length l.lists.items ≡ l.k;
}
