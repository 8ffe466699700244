use Rattle.std.proofs.Common.{subst}
use Rattle.std.specs.Prelude.{IfOk}
use Rattle.species_space.specs.declared.space.SpeciesSpace.{SpeciesSpace}
use Rattle.price_rounds.specs.Woven.{IsSearch}
use Rattle.price_rounds.proofs.Searches.{searched, tried}
use Rattle.price_rounds.proofs.search.search_woven.Goals as goal

pub returns-clause-searched : goal.returns-clause-searched
returns-clause-searched c =
    let first = c.search_web.ensures in
    let result = c.search_web.result in
    subst (λ (s : SpeciesSpace). IfOk result (IsSearch s.exercise s.sheet c.args.known c.args.budget))
    c.in_ok-priced.ensures.space
    (searched _ _ c.args.known c.args.budget result
    (tried _ _ c.args.known result first.found first.nothing first.bound first.kept first.agrees) first.over)
