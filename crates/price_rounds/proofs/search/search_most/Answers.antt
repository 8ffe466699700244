use Rattle.std.proofs.Common.{◌≤◌, subst}
use Rattle.tree_search.specs.Outcomes.{IfSpent}
use Rattle.tree_search.specs.declared.outcome.Outcome.{Outcome}
use Rattle.price_rounds.proofs.Searches.{later}
use Rattle.price_rounds.proofs.search.search_most.Goals as goal

pub returns-in-Spent-clause-searched : goal.returns-in-Spent-clause-searched
returns-in-Spent-clause-searched c =
    later c.args.space.now.exercise c.args.space.now.sheet c.args.known c.in-Spent.bound c.args.budget
    c.search_raised.result
    (subst (λ (o : Outcome). IfSpent o (λ least. c.args.known ≤ least)) c.in-Spent.is c.in_ok-outcome.ensures.tried.kept)
    c.search_raised.ensures.searched
