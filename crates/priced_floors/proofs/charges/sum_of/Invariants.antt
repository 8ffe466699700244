use Rattle.std.proofs.Common.{◌≡◌, ◌≤◌, ◌*◌, ◌^◌, take, sum}
use Rattle.priced_floors.proofs.charges.sum_of.Given as goal

abbrev pub invariant-loop-price : goal.invariant-loop-price
invariant-loop-price l = record {
  value : l.sum ≡ sum (take l.price-index l.prices);
  small : l.sum ≤ l.price-index * 2 ^ 32;
}
