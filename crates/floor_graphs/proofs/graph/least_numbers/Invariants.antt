use Rattle.std.specs.Prelude.{◌≤◌, vec_capacity}
use Rattle.floor_graphs.specs.Numbers.{AreLeast, AreSmall}
use Rattle.floor_graphs.proofs.graph.least_numbers.Given as goal

abbrev pub invariant-loop-node : goal.invariant-loop-node
invariant-loop-node g l = record {
  least : AreLeast (g.G.Graph.edge_at l.graph) (g.G.Graph.width l.graph) (g.G.Graph.ends_at l.graph) l.node l.numbers.items;
  small : AreSmall l.numbers.items;
  room : l.size ≤ vec_capacity l.numbers;
}
