use Rattle.std.proofs.Common.{[], sym, ◌∙◌, arith}
use Rattle.priced_paths.specs.CaseGraphs.{case_of}
use Rattle.priced_paths.proofs.PricedSums.{place_begins, priced_sum-at}
use Rattle.priced_paths.proofs.guide.PricedGuideGuide.start.Goals as goal

pub returns-in_err-sum : goal.returns-in_err-sum
returns-in_err-sum g c =
    let self = c.args.self.now in
    let first = c.first_place-place in
    let begun = place_begins self.web.now (case_of (g.P.Pricing.toll_at self.pricing.now)
    (g.P.Pricing.reaches_at self.pricing.now) (g.P.Pricing.rate_of self.pricing.now))
    (g.P.Pricing.count self.pricing.now) self.sound first.result first.ensures.at
    (λ k within. first.ensures.standings k (omega (arith, within, self.few))) in
    rw c.from_residual.ensures
    (priced_sum-at self.web.now (case_of (g.P.Pricing.toll_at self.pricing.now)
    (g.P.Pricing.reaches_at self.pricing.now) (g.P.Pricing.rate_of self.pricing.now))
    (g.P.Pricing.count self.pricing.now) (g.P.Pricing.settled_by self.pricing.now) self.numbers.now self.whole
    first.result [] 0 begun (g.met.P.Pricing.priced self.pricing.now).start ∙ sym c.in_err-sum.ensures)

pub returns : goal.returns
returns g c =
    let self = c.args.self.now in
    let first = c.first_place-place in
    let begun = place_begins self.web.now (case_of (g.P.Pricing.toll_at self.pricing.now)
    (g.P.Pricing.reaches_at self.pricing.now) (g.P.Pricing.rate_of self.pricing.now))
    (g.P.Pricing.count self.pricing.now) self.sound first.result first.ensures.at
    (λ k within. first.ensures.standings k (omega (arith, within, self.few))) in (
      begun,
      priced_sum-at self.web.now (case_of (g.P.Pricing.toll_at self.pricing.now)
          (g.P.Pricing.reaches_at self.pricing.now) (g.P.Pricing.rate_of self.pricing.now))
          (g.P.Pricing.count self.pricing.now) (g.P.Pricing.settled_by self.pricing.now) self.numbers.now self.whole
          first.result [] 0 begun (g.met.P.Pricing.priced self.pricing.now).start ∙ sym c.in_ok-sum.ensures,
    )
