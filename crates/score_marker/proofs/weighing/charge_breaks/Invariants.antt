use Rattle.std.proofs.Common.{◌≡◌, ◌++◌, map, take}
use Rattle.score_marker.specs.declared.charge.Charge.TheVariants.{Broken}
use Rattle.score_marker.proofs.weighing.charge_breaks.Given as goal

abbrev pub invariant-loop-mark : goal.invariant-loop-mark
invariant-loop-mark l = l.charges.items ≡ l.fn.charges.items ++ map Broken (take l.mark-index l.mark-items)
