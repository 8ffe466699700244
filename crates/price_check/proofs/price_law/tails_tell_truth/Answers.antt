use Rattle.price_check.proofs.TailTruths as truths
use Rattle.price_check.proofs.price_law.tails_tell_truth.Goals as goal

pub returns-clause-truth : goal.returns-clause-truth
returns-clause-truth c = truths.tails_tell_truth

pub returns-clause-first : goal.returns-clause-first
returns-clause-first c = truths.tails_tell_first
