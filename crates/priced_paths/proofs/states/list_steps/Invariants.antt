use Rattle.std.specs.Prelude.{[]}
use Rattle.priced_paths.specs.Listed.{IsWorking}
use Rattle.priced_paths.proofs.states.list_steps.Given as goal

abbrev pub invariant-loop-label : goal.invariant-loop-label
invariant-loop-label g l =
    IsWorking (g.P.Pricing.kept_of l.pricing []) (g.P.Tree.Space.height (g.P.Pricing.tree l.pricing))
    (g.P.Pricing.breadth l.pricing) (g.P.Pricing.step_at l.pricing) l.state l.label l.edges l.fn.states.keys l.states.keys
