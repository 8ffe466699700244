use Rattle.std.proofs.Common.{◌≡◌, arith}
use Rattle.floor_graphs.proofs.NumberSteps.{least_push, small_push, checked_from_least}
use Rattle.floor_graphs.proofs.graph.least_numbers.Goals as goal

pub loop-node-preserved : goal.loop-node-preserved
loop-node-preserved g c =
    let own = rw c.deref.ensures.value at c.number_of-number.ensures.number in
    let before = c.loop-node.invariant in
    record {
      least = least_push _ _ _ _ _ _ _ _ (g.met.G.Graph.lead_back c.args.graph.now) before.least own
          c.push_reserved.ensures.items;
      small = small_push _ _ _ _ before.least.all before.small c.number_of-number.ensures.small
          c.push_reserved.ensures.items;
      room = omega (arith, before.room, c.push_reserved.ensures.capacity);
    }

pub returns-clause-checked : goal.returns-clause-checked
returns-clause-checked g c =
    let all : c.loop-node.node ≡ g.G.Graph.nodes c.args.graph.now = omega (
      arith,
      c.size-size.ensures,
      c.loop-node-test.false,
      c.loop-node.auto.node-end,
    ) in
    checked_from_least _ _ _ _ _ (g.met.G.Graph.lead_back c.args.graph.now) (rw all at c.loop-node.invariant.least)
