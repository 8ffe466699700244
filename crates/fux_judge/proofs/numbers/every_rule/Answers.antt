use Rattle.std.proofs.Common.{refl}
use Rattle.fux_judge.specs.Rules.{rules_read}
use Rattle.fux_judge.proofs.numbers.every_rule.Goals as goal

pub returns-clause-value : goal.returns-clause-value
unfolding rules_read
returns-clause-value c = refl

pub returns-clause-table : goal.returns-clause-table
unfolding rules_read
returns-clause-table c = refl
