use Rattle.std.specs.Prelude.{[]}
use Rattle.priced_paths.specs.Listed.{AreCounted, AreListed}
use Rattle.priced_paths.proofs.states.states_of.Given as goal

abbrev pub invariant-loop-at : goal.invariant-loop-at
invariant-loop-at g l = record {
  listed : AreListed (g.P.Pricing.kept_of l.pricing []) (g.P.Tree.Space.height (g.P.Pricing.tree l.pricing))
      (g.P.Pricing.breadth l.pricing) (g.P.Pricing.step_at l.pricing) l.at l.states.keys;
  counted : AreCounted (g.P.Tree.Space.height (g.P.Pricing.tree l.pricing)) (g.P.Pricing.breadth l.pricing)
      (g.P.Pricing.step_at l.pricing) l.at l.tally l.states.keys;
}
