use Rattle.std.proofs.Common.{refl, sym}
use Rattle.priced_paths.proofs.Laying.{edge_found, edge_lost}
use Rattle.priced_paths.proofs.Puts.{state_same}
use Rattle.priced_paths.proofs.whole.edge_to.Goals as goal

pub returns-in_err-to : goal.returns-in_err-to
returns-in_err-to g c =
    absurd (edge_lost c.args.states.now.keys c.requires.states c.args.at c.args.state.now c.requires.there c.args.label
    c.requires.above c.requires.label c.in_ok-kept.kept c.in_ok-kept.cost (sym c.in_ok-kept.ensures)
    (state_same g.met.P.Pricing.same) (sym c.in_err-to.ensures.found))

pub returns : goal.returns
returns g c =
    edge_found c.args.states.now.keys c.requires.states c.args.at c.args.state.now c.requires.there c.args.label
    c.requires.above c.requires.label c.in_ok-kept.kept c.in_ok-kept.cost (sym c.in_ok-kept.ensures)
    (state_same g.met.P.Pricing.same) c.in_ok-to.to (record { to = c.in_ok-to.to; cost = c.min.result })
    (sym c.in_ok-to.ensures.index) refl c.min.ensures
