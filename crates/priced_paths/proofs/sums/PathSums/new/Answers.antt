use Rattle.priced_paths.specs.CaseGraphs.{case_of}
use Rattle.priced_paths.proofs.Spots.{sound_from_web}
use Rattle.priced_paths.proofs.Mapped.{priced_floors}
use Rattle.priced_paths.proofs.SpotRests.{are_exact}
use Rattle.priced_paths.proofs.sums.PathSums.new.Goals as goal

pub invariant_of-guide : goal.invariant_of-guide
invariant_of-guide g c =
    let pricing = c.args.pricing.now in
    record {
      sound = sound_from_web c.args.web.now c.requires.web;
      short = c.requires.short;
      few = c.requires.few;
      each = c.requires.each;
      small = λ k within. (c.requires.numbers k within).small;
      whole = λ k within. (c.requires.numbers k within).whole;
      floors = priced_floors (g.met.P.Pricing.priced pricing) c.args.web.now c.requires.web c.args.numbers.now
          c.requires.numbers;
    }

pub invariant_of-result : goal.invariant_of-result
invariant_of-result g c =
    let pricing = c.args.pricing.now in
    record {
      exact = are_exact c.args.web.now c.requires.web
          (case_of (g.P.Pricing.toll_at pricing) (g.P.Pricing.reaches_at pricing) (g.P.Pricing.rate_of pricing))
          (g.P.Pricing.count pricing) c.args.numbers.now (λ k within. (c.requires.numbers k within).least);
    }
