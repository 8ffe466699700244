use Rattle.std.proofs.Common.{refl}
use Rattle.fux_judge.specs.Kept.{rules_within_bars, rules_at_a_bar, rules_at_the_end}
use Rattle.fux_judge.specs.Rules.{rule_at, rules_at_once, rules_read}
use Rattle.fux_judge.proofs.numbers.left_within_bars.Goals as goal

pub returns-clause-value : goal.returns-clause-value
unfolding rules_within_bars rules_at_a_bar rules_at_the_end rules_at_once rules_read rule_at
returns-clause-value c = refl
