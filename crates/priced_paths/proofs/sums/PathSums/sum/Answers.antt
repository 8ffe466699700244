use Rattle.std.proofs.Common.{ℕ, ap, sym, ◌∙◌}
use Rattle.priced_paths.specs.CaseGraphs.{Case, case_of}
use Rattle.priced_paths.specs.Stands.{sum_there}
use Rattle.priced_paths.proofs.sums.PathSums.sum.Goals as goal

pub returns-in_default : goal.returns-in_default
returns-in_default g c = λ path stands room.
    let guide = c.args.self.now.guide in
    let case : ℕ → Case = case_of (g.P.Pricing.toll_at guide.pricing.now) (g.P.Pricing.reaches_at guide.pricing.now)
    (g.P.Pricing.rate_of guide.pricing.now) in
    ap (sum_there guide.web.now case (g.P.Pricing.count guide.pricing.now) guide.numbers.now c.args.settled)
    (sym c.in_default.is)
    ∙ c.args.self.now.exact c.args.place.now path c.args.settled stands room

pub returns : goal.returns
returns g c = λ path stands room.
    let guide = c.args.self.now.guide in
    let case : ℕ → Case = case_of (g.P.Pricing.toll_at guide.pricing.now) (g.P.Pricing.reaches_at guide.pricing.now)
    (g.P.Pricing.rate_of guide.pricing.now) in
    c.least_sum.ensures
    ∙ ap (sum_there guide.web.now case (g.P.Pricing.count guide.pricing.now) guide.numbers.now c.args.settled)
    (sym c.in-Some.is)
    ∙ c.args.self.now.exact c.args.place.now path c.args.settled stands room
