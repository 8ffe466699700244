use Rattle.std.proofs.Common.{sym}
use Rattle.priced_paths.proofs.Puts.{grows_put, state_same}
use Rattle.priced_paths.proofs.states.list_next.Goals as goal

pub returns-clause-grown : goal.returns-clause-grown
returns-clause-grown g c =
    grows_put (state_same g.met.P.Pricing.same) c.args.states.now.keys _ c.in-Some.next _ (sym c.in-Some.ensures) c.in_ok-insert.ensures.keys
