use Rattle.floor_graphs.proofs.SameAnswers.{agrees_from_facts, if_unspent, not_spent}
use Rattle.priced_paths.proofs.search.search_unpriced.Goals as goal

pub returns-in_default : goal.returns-in_default
returns-in_default g c =
    let unspent = not_spent _ c.in_default.not-Spent in
    record {
      found = c.in_ok-answer.ensures.found;
      nothing = c.in_ok-answer.ensures.nothing;
      bound = if_unspent _ _ unspent;
      kept = if_unspent _ _ unspent;
      over = λ spent. absurd (unspent spent);
      agrees = agrees_from_facts _ _ _ c.in_ok-answer.ensures.found c.in_ok-answer.ensures.nothing;
    }
