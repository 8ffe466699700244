use Rattle.std.proofs.Common.{◌≡◌, Bool, false, sym, subst, ◌∙◌, arith}
use Rattle.floor_graphs.specs.Numbers.{IsNumber, number_in}
use Rattle.floor_graphs.proofs.NumberSteps.{least_more, least_over, lesser-small}
use Rattle.floor_graphs.proofs.graph.number_of.Goals as goal

pub loop-label-preserved : goal.loop-label-preserved
loop-label-preserved g c = record {
  least = least_more _ _ _ _ _ c.loop-label.invariant.least c.sum_by.ensures.value c.lesser-least.ensures;
  small = rw c.lesser-least.ensures
      (lesser-small _ _ _ c.loop-label.invariant.small c.sum_by.ensures.small);
}

pub returns-clause-number : goal.returns-clause-number
returns-clause-number g c =
    let edge = g.G.Graph.edge_at c.args.graph.now c.args.node in
    let width = g.G.Graph.width c.args.graph.now c.args.node in
    let number = number_in c.args.numbers.now in
    let own = least_over number edge c.span-low.result.0 c.span-low.result.1 c.loop-label.label width c.loop-label.least
    c.span-low.ensures.edges (omega (arith, c.loop-label-test.false)) c.span-low.ensures.within
    c.loop-label.invariant.least in
    let goes_on : g.G.Graph.ends_at c.args.graph.now c.args.node ≡ false = sym c.is_end.ensures ∙ c.if-is_end.false in
    let P : Bool → Type 0 = λ b. IsNumber b edge width number c.loop-label.least in subst P (sym goes_on) own
