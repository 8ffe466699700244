use Rattle.works.proofs.BestLemmas.{answered_exactly}
use Rattle.works.proofs.searching.search.Goals as goal

pub returns : goal.returns
returns c =
    answered_exactly c.args.space.now c.args.budget c.in_ok-outcome.outcome c.found_by.result c.in_ok-outcome.ensures.exact
    c.found_by.ensures
