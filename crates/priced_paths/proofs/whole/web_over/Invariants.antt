use Rattle.priced_paths.specs.Laid.{AreLaid}
use Rattle.priced_paths.proofs.whole.web_over.Given as goal

abbrev pub invariant-loop-at : goal.invariant-loop-at
invariant-loop-at g l =
    AreLaid (g.P.Tree.Space.height (g.P.Pricing.tree l.pricing)) (g.P.Pricing.breadth l.pricing)
    (g.P.Pricing.step_at l.pricing) l.states.keys l.at l.web
