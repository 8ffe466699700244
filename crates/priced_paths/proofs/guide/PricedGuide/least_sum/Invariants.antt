use Rattle.std.specs.Prelude.{◌≡◌}
use Rattle.floor_graphs.specs.Cases.{least_below}
use Rattle.priced_paths.specs.Places.{numbers_of, standing_in, sum_by}
use Rattle.priced_paths.proofs.guide.PricedGuide.least_sum.Given as goal

abbrev pub invariant-loop-case : goal.invariant-loop-case
invariant-loop-case g l =
    l.least ≡ least_below (λ k. sum_by l.self.web.now (g.P.Pricing.rate_of l.self.pricing.now k)
    (numbers_of l.self.numbers.now k) l.settled l.place.at (standing_in l.place k)) l.case
