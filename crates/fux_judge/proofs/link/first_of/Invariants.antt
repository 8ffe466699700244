use Rattle.std.proofs.Common.{◌≡◌, drop}
use Rattle.std.specs.List.{find}
use Rattle.fux_judge.specs.Neighbors.{breaks_strictly_at_link}
use Rattle.fux_judge.proofs.link.first_of.Given as goal

-- the first is among those that are left
abbrev pub invariant-loop-rule : goal.invariant-loop-rule
invariant-loop-rule l =
    find (breaks_strictly_at_link l.link) l.rules
    ≡ find (breaks_strictly_at_link l.link) (drop l.rule-index l.rules)
