use Rattle.std.proofs.Common.{◌≡◌, ◌++◌, take}
use Rattle.std.specs.List.{flat_map}
use Rattle.score_marker.specs.Charges.{toll_charge}
use Rattle.score_marker.proofs.weighing.charge_tolls.Given as goal

abbrev pub invariant-loop-toll : goal.invariant-loop-toll
invariant-loop-toll l = l.charges.items ≡ l.fn.charges.items
    ++ flat_map (toll_charge l.ex l.sheet l.score.columns l.i) (take l.toll-index l.toll-items)
