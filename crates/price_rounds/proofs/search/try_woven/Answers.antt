use Rattle.std.proofs.Common.{subst}
use Rattle.std.specs.Prelude.{IfOk}
use Rattle.species_space.specs.declared.space.SpeciesSpace.{SpeciesSpace}
use Rattle.price_rounds.specs.Woven.{IsTry}
use Rattle.price_rounds.proofs.Searches.{tried}
use Rattle.price_rounds.proofs.search.try_woven.Goals as goal

pub returns-clause-tried : goal.returns-clause-tried
returns-clause-tried c =
    let first = c.try_web.ensures in
    subst (λ (s : SpeciesSpace). IfOk c.try_web.result (IsTry s.exercise s.sheet c.args.known)) c.in_ok-priced.ensures.space
    (tried _ _ c.args.known c.try_web.result first.found first.nothing first.bound first.kept first.agrees)
