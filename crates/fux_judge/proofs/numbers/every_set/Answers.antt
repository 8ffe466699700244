use Rattle.std.proofs.Common.{rules}
use Rattle.rule_law.specs.Forms as forms
use Rattle.fux_judge.proofs.numbers.every_set.Goals as goal

pub returns-clause-value : goal.returns-clause-value
unfolding forms.all_sets
returns-clause-value c = search rules
