use Rattle.std.proofs.Common.{sym, arith}
use Rattle.rule_law.proofs.RuleBits.{no_rule_above}
use Rattle.rule_law.proofs.sets.RuleSet.has.Goals as goal

pub returns-then-rule-ge32 : goal.returns-then-rule-ge32
returns-then-rule-ge32 c = sym (no_rule_above c.args.self.bits c.args.rule (omega arith) c.if-rule-ge32.true)
