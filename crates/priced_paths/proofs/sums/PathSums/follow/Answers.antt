use Rattle.std.proofs.Common.{◌≡◌, ℕ, ◌++◌, ◌∷◌, [], Option, None, option_and_then, ap, subst, sym, ◌∙◌, arith}
use Rattle.priced_paths.specs.declared.guide.Place.{Place}
use Rattle.priced_paths.specs.CaseGraphs.{Case, case_of}
use Rattle.priced_paths.specs.Webs.{edge_in, spot_at}
use Rattle.priced_paths.proofs.Spots.{end_of, spot-append_none, spot_from-append}
use Rattle.priced_paths.proofs.PricedSums.{place_on}
use Rattle.priced_paths.specs.Stands.{StandsAt}
use Rattle.priced_paths.proofs.sums.PathSums.follow.Goals as goal

pub returns-in_default : goal.returns-in_default
returns-in_default g c = λ path stands.
    let guide = c.args.self.now.guide in
    let case : ℕ → Case = case_of (g.P.Pricing.toll_at guide.pricing.now) (g.P.Pricing.reaches_at guide.pricing.now)
    (g.P.Pricing.rate_of guide.pricing.now) in
    let none : spot_at guide.web.now path ≡ None = subst (λ (o : Option Place). StandsAt guide.web.now case
    (g.P.Pricing.count guide.pricing.now) o path) c.in_default.is stands in
    spot_from-append guide.web.now 0 path c.args.label
    ∙ ap (option_and_then (λ s. end_of (edge_in guide.web.now s c.args.label))) none

pub edge-requires : goal.edge-requires
edge-requires g c = c.args.self.now.guide.sound.inside c.in-Some.here.at

pub returns-in_err-edge : goal.returns-in_err-edge
returns-in_err-edge g c = λ path stands.
    let guide = c.args.self.now.guide in
    let case : ℕ → Case = case_of (g.P.Pricing.toll_at guide.pricing.now) (g.P.Pricing.reaches_at guide.pricing.now)
    (g.P.Pricing.rate_of guide.pricing.now) in
    let here = subst (λ (o : Option Place). StandsAt guide.web.now case (g.P.Pricing.count guide.pricing.now) o path)
    c.in-Some.is stands in
    subst (λ (o : Option Place). StandsAt guide.web.now case (g.P.Pricing.count guide.pricing.now) o
    (path ++ c.args.label ∷ [])) (sym c.from_residual.ensures)
    (spot-append_none guide.web.now path c.args.label c.in-Some.here.at here.at (sym c.in_err-edge.ensures))

pub place_after-requires-clause-above : goal.place_after-requires-clause-above
place_after-requires-clause-above g c =
    let its = c.args.self.now.guide.sound.edges c.in-Some.here.at c.args.label c.in_ok-edge.edge
    (sym c.in_ok-edge.ensures) in
    omega (arith, its.above, c.depth-depth.ensures)

pub place_after-requires-clause-label : goal.place_after-requires-clause-label
place_after-requires-clause-label g c =
    let its = c.args.self.now.guide.sound.edges c.in-Some.here.at c.args.label c.in_ok-edge.edge
    (sym c.in_ok-edge.ensures) in
    rw c.depth-depth.ensures its.is_label

pub returns : goal.returns
returns g c = λ path stands.
    let guide = c.args.self.now.guide in
    let next = c.place_after in
    let case : ℕ → Case = case_of (g.P.Pricing.toll_at guide.pricing.now) (g.P.Pricing.reaches_at guide.pricing.now)
    (g.P.Pricing.rate_of guide.pricing.now) in
    let here = subst (λ (o : Option Place). StandsAt guide.web.now case (g.P.Pricing.count guide.pricing.now) o path)
    c.in-Some.is stands in
    place_on guide.web.now case (g.P.Pricing.count guide.pricing.now) guide.sound c.in-Some.here next.result path
    c.args.label c.depth-depth.result c.in_ok-edge.edge here c.depth-depth.ensures (sym c.in_ok-edge.ensures)
    next.ensures.at next.ensures.standings next.ensures.cheap
