use Rattle.std.specs.Prelude.{◌≡◌, ℕ, ◌<◌, Some, slice_get}
use Rattle.priced_paths.specs.declared.web.Spot.{Spot}
use Rattle.priced_paths.specs.Webs.{IsSpotOf}
use Rattle.priced_paths.proofs.web.is_web.Given as goal

abbrev pub invariant-loop-at : goal.invariant-loop-at
invariant-loop-at g l =
    (k : ℕ) (spot : Spot _) → k < l.at → slice_get l.web.spots.items k ≡ Some spot
    → IsSpotOf (g.P.Tree.Space.height (g.P.Pricing.tree l.pricing)) (g.P.Pricing.breadth l.pricing)
    (g.P.Pricing.step_at l.pricing) l.web k spot
