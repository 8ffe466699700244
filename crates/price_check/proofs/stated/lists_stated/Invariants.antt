use Rattle.std.proofs.Common.{◌++◌, map, drop, List}
use Rattle.price_check.specs.PriceLines.{line_of}
use Rattle.price_check.specs.Owned.{list_owned}
use Rattle.price_check.specs.PriceLists.{PriceList}
use Rattle.price_check.specs.Stated.{AreEachStated, lists_of}
use Rattle.price_check.proofs.stated.lists_stated.Given as goal

abbrev pub invariant-loop-k : goal.invariant-loop-k
invariant-loop-k l =
    (more : List PriceList) → AreEachStated l.sheet (lists_of (map line_of (drop l.k l.lines))) more
    → AreEachStated l.sheet (lists_of (map line_of l.lines)) (map list_owned l.lists.items ++ more)
