use Rattle.floor_graphs.proofs.SameAnswers.{agrees_from_facts, not_spent, if_unspent}
use Rattle.floor_graphs.proofs.bounds.try_by_bounds.Goals as goal

pub returns-in_default-clause-bound : goal.returns-in_default-clause-bound
returns-in_default-clause-bound g c = if_unspent _ _ (not_spent _ c.in_default.not-Spent)

pub returns-in_default-clause-kept : goal.returns-in_default-clause-kept
returns-in_default-clause-kept g c = if_unspent _ _ (not_spent _ c.in_default.not-Spent)

pub returns-in_default-clause-agrees : goal.returns-in_default-clause-agrees
returns-in_default-clause-agrees g c =
    agrees_from_facts _ _ _ c.in_ok-answer.ensures.found c.in_ok-answer.ensures.nothing

pub returns-clause-agrees : goal.returns-clause-agrees
returns-clause-agrees g c =
    agrees_from_facts _ _ _ c.before.before.in_ok-outcome.ensures.found
    c.before.before.in_ok-outcome.ensures.nothing
