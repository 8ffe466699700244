use Rattle.std.specs.Prelude.{ℕ, ◌<◌}
use Rattle.priced_paths.specs.Webs.{IsEdgeOf, slot_edge}
use Rattle.priced_paths.proofs.web.is_spot.Given as goal

abbrev pub invariant-loop-label : goal.invariant-loop-label
invariant-loop-label g l =
    (k : ℕ) → k < l.label → IsEdgeOf l.web l.at l.spot.depth (slot_edge l.web.edges.items l.spot k)
    (g.P.Pricing.step_at l.pricing l.spot.depth l.spot.kept k)
