use Rattle.std.proofs.Common.{refl}
use Rattle.fux_judge.proofs.ToldLemmas.{told_at_once}
use Rattle.fux_judge.proofs.kept.breaks_opening.Goals as goal

pub is_strictly_broken_now-requires-clause-rule : goal.is_strictly_broken_now-requires-clause-rule
is_strictly_broken_now-requires-clause-rule c = told_at_once 12 refl
