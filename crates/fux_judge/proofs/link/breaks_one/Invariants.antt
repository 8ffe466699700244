use Rattle.std.proofs.Common.{◌≡◌, false, take}
use Rattle.std.specs.List.{list_any}
use Rattle.fux_judge.specs.Neighbors.{breaks_strictly_at_link}
use Rattle.fux_judge.proofs.link.breaks_one.Given as goal

abbrev pub invariant-loop-rule : goal.invariant-loop-rule
invariant-loop-rule l = list_any (breaks_strictly_at_link l.link) (take l.rule-index l.rules) ≡ false
