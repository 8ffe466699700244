use Rattle.std.proofs.Common.{◌≡◌, ◌<◌, ℕ, Some, slice_get}
use Rattle.std.specs.Prelude.{◌≢◌}
use Rattle.price_check.specs.declared.priced_list.PricedList.{PricedList}
use Rattle.price_check.specs.Woven.{keeps_number}
use Rattle.price_check.proofs.woven.first_with.Given as goal

abbrev pub invariant-loop-k : goal.invariant-loop-k
invariant-loop-k l =
    (k : ℕ) (it : PricedList) → k < l.k → slice_get l.lists k ≡ Some it → keeps_number it.space.keeps ≢ l.number
