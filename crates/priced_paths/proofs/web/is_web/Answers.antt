use Rattle.std.proofs.Common.{◌≡◌, ℕ, length, refl, sym, ap, subst, ◌∙◌, arith, slice_get, ⊎_elim}
use Rattle.std.proofs.lemmas.Bool.{cases_lt}
use Rattle.std.proofs.lemmas.Option.{slice_get_read, slice_get_within}
use Rattle.priced_paths.specs.declared.web.Spot.{Spot}
use Rattle.priced_paths.specs.Webs.{IsSpotOf}
use Rattle.priced_paths.proofs.web.is_web.Goals as goal

pub loop-at-preserved : goal.loop-at-preserved
loop-at-preserved g c = λ k spot within is.
    let web = c.args.web.now in
    let spots = web.spots.items in
    let height = g.P.Tree.Space.height (g.P.Pricing.tree c.args.pricing.now) in
    let breadth = g.P.Pricing.breadth c.args.pricing.now in
    let step = g.P.Pricing.step_at c.args.pricing.now in
    ⊎_elim
    (λ before. c.loop-at.invariant k spot before is)
    (λ after.
    let same : k ≡ c.loop-at.at = omega (arith, within, after) in
    let read = slice_get_read spots (length spots) c.loop-at.at c.index.result.now refl (omega (
      arith,
      c.loop-at-test.true,
      c.len-at-end.ensures,
    )) c.index.ensures in
    let both = sym read ∙ ap (slice_get spots) (sym same) ∙ is in
    let alike : c.index.result.now ≡ spot = cc in
    let own = subst (λ (j : ℕ). IsSpotOf height breadth step web j c.index.result.now) (sym same)
    c.if-not-is_spot.ensures in
    subst (λ (s : Spot _). IsSpotOf height breadth step web k s) alike own)
    (cases_lt k c.loop-at.at)

pub returns : goal.returns
returns g c = record {
  few = omega arith;
  root = c.in-Some.root.now;
  is_root = let k = c.deref.ensures.value in cc (c.in-Some.ensures.value);
  first = omega arith;
  begins = let s = c.start.ensures in let e = c.if-not-is_same.ensures in cc;
  spots = λ at spot is.
      let within = slice_get_within c.args.web.now.spots.items at spot is in
      c.loop-at.invariant at spot (omega (arith, within)) is;
}
