use Rattle.std.proofs.Common.{◌≡◌, ℕ, Some, length, refl, ap, subst, ◌∙◌, arith, slice_get}
use Rattle.std.proofs.lemmas.Option.{slice_get_read}
use Rattle.priced_paths.specs.CaseGraphs.{case_of, case_width, spot_of}
use Rattle.priced_paths.specs.LeadBacks.{case_spanned}
use Rattle.priced_paths.specs.Webs.{labels_or}
use Rattle.priced_paths.proofs.case.CaseGraphGraph.span.Goals as goal

pub returns : goal.returns
returns g c =
    let self = c.args.self.now in
    let spots = self.web.now.spots.items in
    let spot = c.index-spot.result.now in
    let count : c.len.result ≡ length spots = omega (arith, c.len.ensures) in
    let at : c.stop_of-stop.result.at ≡ spot_of (length spots) c.args.node = c.stop_of-stop.ensures.at
    ∙ ap (λ (n : ℕ). spot_of n c.args.node) count in
    let read = slice_get_read spots (length spots) c.stop_of-stop.result.at spot refl (omega (
      arith,
      c.stop_of-stop.ensures.within,
      count,
    )) c.index-spot.ensures in
    let is : slice_get spots (spot_of (length spots) c.args.node) ≡ Some spot =
    subst (λ (s : ℕ). slice_get spots s ≡ Some spot) at read in
    let slots = self.sound.inside (spot_of (length spots) c.args.node) spot is in
    let width : case_width self.web.now c.args.node ≡ spot.labels = ap labels_or is in
    record {
      within = omega (arith, slots.within, width);
      edges = case_spanned self.web.now (case_of (g.P.Pricing.toll_at self.pricing.now)
          (g.P.Pricing.reaches_at self.pricing.now) (g.P.Pricing.rate_of self.pricing.now) self.case)
          c.args.node spot is;
    }
