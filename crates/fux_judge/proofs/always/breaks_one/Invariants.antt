use Rattle.std.proofs.Common.{◌≡◌, None, false, take}
use Rattle.std.specs.List.{list_any}
use Rattle.fux_judge.specs.Links.{breaks_strictly}
use Rattle.fux_judge.proofs.always.breaks_one.Given as goal

abbrev pub invariant-loop-rule : goal.invariant-loop-rule
invariant-loop-rule l = list_any (breaks_strictly l.ex l.i None l.now) (take l.rule-index l.rules) ≡ false
