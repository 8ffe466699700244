use Rattle.std.specs.Prelude.{◌*◌, ◌^◌, ◌≤◌, IfSome}
use Rattle.floor_graphs.specs.Numbers.{IsLeastBelow, sum_behind, number_in}
use Rattle.floor_graphs.proofs.graph.number_of.Given as goal

abbrev pub invariant-loop-label : goal.invariant-loop-label
invariant-loop-label g l = record {
  least : IsLeastBelow (λ k. sum_behind (number_in l.numbers) (g.G.Graph.edge_at l.graph l.node k)) l.label l.least;
  small : IfSome l.least (λ sum. sum ≤ l.node * 2 ^ 32);
}
