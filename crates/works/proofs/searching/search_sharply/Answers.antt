use Rattle.std.proofs.Common.{subst, sym}
use Rattle.tree_search.specs.Outcomes.{IsSpent}
use Rattle.works.proofs.BestLemmas.{answered_sharply, bounded_sharply, bounds_settings, tells_no_bound}
use Rattle.works.proofs.searching.search_sharply.Goals as goal

pub raised-requires-clause-reached : goal.raised-requires-clause-reached
raised-requires-clause-reached c =
    bounds_settings c.args.space.now c.requires c.in-Spent.bound (rw c.in-Spent.is at c.in_ok-ended.ensures.bound)

pub returns-in_ok-raised-in-Spent : goal.returns-in_ok-raised-in-Spent
returns-in_ok-raised-in-Spent c =
    bounded_sharply c.args.space.now c.requires c.args.budget c.in_ok-raised-in-Spent.field-0
    c.in_ok-raised-in-Spent.ensures (c.in_ok-ended.ensures.over (subst IsSpent (sym c.in-Spent.is) tt))

pub returns-in_default : goal.returns-in_default
returns-in_default c =
    answered_sharply c.args.space.now c.requires c.args.budget c.in_ok-ended.ended c.found_by.result
    c.in_ok-ended.ensures.found c.in_ok-ended.ensures.nothing
    (tells_no_bound c.in_ok-ended.ended c.in_default.not-Spent) c.found_by.ensures
