use Rattle.std.proofs.Common.{◌≤◌, subst}
use Rattle.floor_graphs.proofs.SameAnswers.{not_spent}
use Rattle.tree_search.specs.Outcomes.{IfSpent}
use Rattle.tree_search.specs.declared.outcome.Outcome.{Outcome}
use Rattle.price_rounds.proofs.Searches.{later}
use Rattle.price_rounds.proofs.search.search_after.Goals as goal

pub returns-in-Spent-clause-searched : goal.returns-in-Spent-clause-searched
returns-in-Spent-clause-searched c =
    later c.args.space.now.exercise c.args.space.now.sheet c.args.known c.in-Spent.bound c.args.budget
    c.search_most.result
    (subst (λ (o : Outcome). IfSpent o (λ least. c.args.known ≤ least)) c.in-Spent.is c.requires.tried.kept)
    c.search_most.ensures.searched

pub returns-in_default-clause-searched : goal.returns-in_default-clause-searched
returns-in_default-clause-searched c = record {
  tried = c.requires.tried;
  over = λ spent. absurd (not_spent _ c.in_default.not-Spent spent);
}
