use Rattle.std.proofs.Common.{arith}
use Rattle.priced_paths.specs.CaseGraphs.{case_of}
use Rattle.priced_paths.proofs.PricedSums.{place_begins}
use Rattle.priced_paths.proofs.sums.PathSums.start.Goals as goal

pub returns : goal.returns
returns g c =
    let guide = c.args.self.now.guide in
    place_begins guide.web.now (case_of (g.P.Pricing.toll_at guide.pricing.now) (g.P.Pricing.reaches_at guide.pricing.now)
    (g.P.Pricing.rate_of guide.pricing.now)) (g.P.Pricing.count guide.pricing.now) guide.sound c.first_place.result
    c.first_place.ensures.at (λ k within. c.first_place.ensures.standings k (omega (arith, within, guide.few)))
