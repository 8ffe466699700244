use Rattle.floor_graphs.proofs.SameAnswers.{agrees_from_facts, not_spent, if_unspent}
use Rattle.floor_graphs.proofs.bounds.search_by_bounds.Goals as goal

pub returns-in_default : goal.returns-in_default
returns-in_default g c =
    let unspent = not_spent _ c.in_default.not-Spent in
    record {
      found = c.in_ok-answer.ensures.found;
      nothing = c.in_ok-answer.ensures.nothing;
      bound = c.in_ok-answer.ensures.bound;
      kept = c.in_ok-answer.ensures.kept;
      over = λ spent. absurd (unspent spent);
      agrees = c.in_ok-answer.ensures.agrees;
      paid = c.try_by_bounds.ensures.paid;
    }

pub returns-in_default-2 : goal.returns-in_default-2
returns-in_default-2 g c =
    let unspent = not_spent _ c.in_default-2.not-Spent in
    record {
      found = c.in_ok-answer-2.ensures.found;
      nothing = c.in_ok-answer-2.ensures.nothing;
      bound = if_unspent _ _ unspent;
      kept = if_unspent _ _ unspent;
      over = λ spent. absurd (unspent spent);
      agrees = agrees_from_facts _ _ _ c.in_ok-answer-2.ensures.found c.in_ok-answer-2.ensures.nothing;
      paid = c.try_by_bounds.ensures.paid;
    }
