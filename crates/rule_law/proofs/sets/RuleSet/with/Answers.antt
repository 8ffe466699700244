use Rattle.std.proofs.Common.{ap, sym, ◌∙◌, ◌||◌, ◌&&◌, ◌==◌}
use Rattle.rule_law.specs.Voices.{has_rule}
use Rattle.rule_law.proofs.RuleBits.{with_rule}
use Rattle.rule_law.proofs.sets.RuleSet.with.Goals as goal

pub returns-then-on : goal.returns-then-on
returns-then-on c = λ r. with_rule c.args.self.bits c.args.rule r c.requires
    ∙ sym (ap (λ b. has_rule c.args.self.bits r || (b && (r == c.args.rule))) c.if-on.true)
