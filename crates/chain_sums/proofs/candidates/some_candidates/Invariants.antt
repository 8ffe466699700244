use Rattle.std.proofs.Common.{◌≤◌, length}
use Rattle.std.specs.Prelude.{vec_capacity, vec_len}
use Rattle.chain_sums.specs.Candidates.{AreCandidates}
use Rattle.chain_sums.proofs.candidates.some_candidates.Given as goal

abbrev pub invariant-loop-k : goal.invariant-loop-k
invariant-loop-k g l = record {
  room : length l.menu.columns.items ≤ vec_capacity l.found;
  few : vec_len l.found ≤ l.k;
  are : AreCandidates (g.L.Links.chains l.links) (g.L.Links.own l.links l.i) l.i l.row l.k l.found.items;
}
