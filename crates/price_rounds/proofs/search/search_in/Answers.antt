use Rattle.floor_graphs.proofs.SameAnswers.{agrees_from_facts, not_spent, on_ok}
use Rattle.price_rounds.specs.Woven.{IsSearch}
use Rattle.price_rounds.proofs.search.search_in.Goals as goal

pub returns-in_default-clause-over : goal.returns-in_default-clause-over
returns-in_default-clause-over c = λ spent. absurd (not_spent _ c.in_default.not-Spent spent)

pub returns-in_default-clause-agrees : goal.returns-in_default-clause-agrees
returns-in_default-clause-agrees c =
    let first = c.in_ok-outcome.ensures in
    agrees_from_facts _ _ _ first.found first.nothing

pub returns-in-Spent-clause-found : goal.returns-in-Spent-clause-found
returns-in-Spent-clause-found c =
    on_ok (IsSearch c.args.space.now.exercise c.args.space.now.sheet c.in-Spent.bound c.args.budget) _
    (λ outcome it. it.tried.found) c.search_by_prices.result c.search_by_prices.ensures.searched

pub returns-in-Spent-clause-nothing : goal.returns-in-Spent-clause-nothing
returns-in-Spent-clause-nothing c =
    on_ok (IsSearch c.args.space.now.exercise c.args.space.now.sheet c.in-Spent.bound c.args.budget) _
    (λ outcome it. it.tried.nothing) c.search_by_prices.result c.search_by_prices.ensures.searched

pub returns-in-Spent-clause-bound : goal.returns-in-Spent-clause-bound
returns-in-Spent-clause-bound c =
    on_ok (IsSearch c.args.space.now.exercise c.args.space.now.sheet c.in-Spent.bound c.args.budget) _
    (λ outcome it. it.tried.bound) c.search_by_prices.result c.search_by_prices.ensures.searched

pub returns-in-Spent-clause-over : goal.returns-in-Spent-clause-over
returns-in-Spent-clause-over c =
    on_ok (IsSearch c.args.space.now.exercise c.args.space.now.sheet c.in-Spent.bound c.args.budget) _
    (λ outcome it. it.over) c.search_by_prices.result c.search_by_prices.ensures.searched

pub returns-in-Spent-clause-agrees : goal.returns-in-Spent-clause-agrees
returns-in-Spent-clause-agrees c =
    on_ok (IsSearch c.args.space.now.exercise c.args.space.now.sheet c.in-Spent.bound c.args.budget) _
    (λ outcome it. it.tried.agrees) c.search_by_prices.result c.search_by_prices.ensures.searched
