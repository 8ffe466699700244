use Rattle.std.proofs.Common.{◌≡◌, drop}
use Rattle.std.specs.List.{find}
use Rattle.rule_law.specs.Voices.{has_rule}
use Rattle.rule_law.proofs.sets.RuleSet.first_of.Given as goal

-- the first is among those that are left
abbrev pub invariant-loop-rule : goal.invariant-loop-rule
invariant-loop-rule l =
    find (has_rule l.self.bits) l.rules ≡ find (has_rule l.self.bits) (drop l.rule-index l.rules)
