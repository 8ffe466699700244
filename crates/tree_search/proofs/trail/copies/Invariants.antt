use Rattle.std.proofs.Common.{◌≡◌, ◌<◌, length, get_or}
use Rattle.tree_search.proofs.trail.copies.Given as goal

abbrev pub invariant-loop-k : goal.invariant-loop-k
invariant-loop-k g l = record {
  count : length l.nodes.items ≡ l._k;
  first : (d : g.row.N.Denot) → 0 < l._k → get_or l.nodes.items 0 d ≡ l.node;
}
