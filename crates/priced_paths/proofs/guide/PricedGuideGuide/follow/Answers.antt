use Rattle.std.proofs.Common.{◌++◌, ◌∷◌, [], sym, ◌∙◌, arith}
use Rattle.priced_paths.specs.CaseGraphs.{case_of}
use Rattle.priced_paths.proofs.Spots.{spot-append_none}
use Rattle.priced_paths.proofs.PricedSums.{place_on, priced_sum-at, priced_sum-none}
use Rattle.priced_paths.proofs.guide.PricedGuideGuide.follow.Goals as goal

pub edge-requires : goal.edge-requires
edge-requires g c = c.args.self.now.sound.inside c.args.place.now.at

pub returns-in_err-edge : goal.returns-in_err-edge
returns-in_err-edge g c = λ path stood at is_live.
    let self = c.args.self.now in
    let none = spot-append_none self.web.now path c.args.k c.args.place.now.at stood.at (sym c.in_err-edge.ensures) in
    rw c.from_residual.ensures (priced_sum-none self.web.now (case_of (g.P.Pricing.toll_at self.pricing.now)
    (g.P.Pricing.reaches_at self.pricing.now) (g.P.Pricing.rate_of self.pricing.now))
    (g.P.Pricing.count self.pricing.now) (g.P.Pricing.settled_by self.pricing.now) self.numbers.now self.whole
    (path ++ c.args.k ∷ []) none)

pub place_after-next-requires-clause-above : goal.place_after-next-requires-clause-above
place_after-next-requires-clause-above g c =
    let its = c.args.self.now.sound.edges c.args.place.now.at c.args.k c.in_ok-edge.edge (sym c.in_ok-edge.ensures) in
    omega (arith, its.above, c.depth-depth.ensures)

pub place_after-next-requires-clause-label : goal.place_after-next-requires-clause-label
place_after-next-requires-clause-label g c =
    let its = c.args.self.now.sound.edges c.args.place.now.at c.args.k c.in_ok-edge.edge (sym
    c.in_ok-edge.ensures) in rw c.depth-depth.ensures its.is_label

pub least_sum-requires-clause-at : goal.least_sum-requires-clause-at
least_sum-requires-clause-at g c =
    let its = c.args.self.now.sound.edges c.args.place.now.at c.args.k c.in_ok-edge.edge (sym c.in_ok-edge.ensures) in
    omega (arith, its.within, c.place_after-next.ensures.at)

pub returns-in_err-sum : goal.returns-in_err-sum
returns-in_err-sum g c = λ path stood at is_live.
    let self = c.args.self.now in
    let next = c.place_after-next in
    let placed = place_on self.web.now (case_of (g.P.Pricing.toll_at self.pricing.now)
    (g.P.Pricing.reaches_at self.pricing.now) (g.P.Pricing.rate_of self.pricing.now))
    (g.P.Pricing.count self.pricing.now) self.sound c.args.place.now next.result path c.args.k c.depth-depth.result
    c.in_ok-edge.edge stood
    c.depth-depth.ensures (sym c.in_ok-edge.ensures) next.ensures.at next.ensures.standings next.ensures.cheap in
    rw c.from_residual-in_err-sum.ensures
    (priced_sum-at self.web.now (case_of (g.P.Pricing.toll_at self.pricing.now)
    (g.P.Pricing.reaches_at self.pricing.now) (g.P.Pricing.rate_of self.pricing.now))
    (g.P.Pricing.count self.pricing.now) (g.P.Pricing.settled_by self.pricing.now) self.numbers.now self.whole
    next.result (path ++ c.args.k ∷ []) c.settled.result placed
    (sym (c.settled.ensures.value (path ++ c.args.k ∷ []) at)) ∙ sym c.in_err-sum.ensures)

pub returns : goal.returns
returns g c = λ path stood at is_live.
    let self = c.args.self.now in
    let next = c.place_after-next in
    let placed = place_on self.web.now (case_of (g.P.Pricing.toll_at self.pricing.now)
    (g.P.Pricing.reaches_at self.pricing.now) (g.P.Pricing.rate_of self.pricing.now))
    (g.P.Pricing.count self.pricing.now) self.sound c.args.place.now next.result path c.args.k c.depth-depth.result
    c.in_ok-edge.edge stood
    c.depth-depth.ensures (sym c.in_ok-edge.ensures) next.ensures.at next.ensures.standings next.ensures.cheap in (
      placed,
      priced_sum-at self.web.now (case_of (g.P.Pricing.toll_at self.pricing.now)
          (g.P.Pricing.reaches_at self.pricing.now) (g.P.Pricing.rate_of self.pricing.now))
          (g.P.Pricing.count self.pricing.now) (g.P.Pricing.settled_by self.pricing.now) self.numbers.now
          self.whole next.result (path ++ c.args.k ∷ []) c.settled.result placed
          (sym (c.settled.ensures.value (path ++ c.args.k ∷ []) at)) ∙ sym c.in_ok-sum.ensures,
    )
