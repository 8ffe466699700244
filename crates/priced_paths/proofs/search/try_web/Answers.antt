use Rattle.std.proofs.Common.{ℕ, ◌<◌, length, ap, ◌∙◌}
use Rattle.priced_paths.specs.CaseGraphs.{case_of}
use Rattle.priced_paths.specs.Places.{AreNumbersOf, numbers_of}
use Rattle.priced_paths.proofs.Spots.{sound_from_web}
use Rattle.priced_paths.proofs.Mapped.{priced_floors}
use Rattle.priced_paths.proofs.search.try_web.Goals as goal

pub case_numbers-requires : goal.case_numbers-requires
case_numbers-requires g c = sound_from_web c.args.web.now c.requires.web

pub invariant_of-guide : goal.invariant_of-guide
invariant_of-guide g c =
    let pricing = c.args.pricing.now in
    let found = c.in_ok-numbers.ensures in
    let are : (k : ℕ) → k < g.P.Pricing.count pricing
    → AreNumbersOf c.args.web.now (g.P.Tree.Space.height (g.P.Pricing.tree pricing))
    (case_of (g.P.Pricing.toll_at pricing) (g.P.Pricing.reaches_at pricing) (g.P.Pricing.rate_of pricing) k)
    (numbers_of c.deref.result.now k) = λ k within. rw c.deref.ensures.value (found.numbers k within) in
    record {
      sound = sound_from_web c.args.web.now c.requires.web;
      short = found.short;
      few = found.few;
      each = ap length c.deref.ensures.value ∙ found.each;
      small = λ k within. (are k within).small;
      whole = λ k within. (are k within).whole;
      floors = priced_floors (g.met.P.Pricing.priced pricing) c.args.web.now c.requires.web c.deref.result.now are;
    }
