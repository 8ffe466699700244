use Rattle.std.proofs.Common.{refl}
use Rattle.fux_judge.specs.Rules.{tolls_read}
use Rattle.fux_judge.proofs.numbers.every_toll.Goals as goal

pub returns-clause-value : goal.returns-clause-value
unfolding tolls_read
returns-clause-value c = refl

pub returns-clause-table : goal.returns-clause-table
unfolding tolls_read
returns-clause-table c = refl
