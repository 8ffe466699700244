use Rattle.std.proofs.Common.{◌≡◌, ◌+◌, ◌≤◌, length, take}
use Rattle.std.specs.Prelude.{vec_capacity, vec_len}
use Rattle.chain_sums.specs.Pieces.{AreEntries, sums_in}
use Rattle.chain_sums.proofs.pieces.work_piece.Given as goal

abbrev pub invariant-loop-k : goal.invariant-loop-k
invariant-loop-k g l = record {
  room : length l.columns ≤ vec_capacity l.part;
  counted : vec_len l.part ≡ l.k;
  entries : AreEntries (g.L.Links.chains l.links) (l.i + 1) (sums_in l.finished) (take l.k l.columns) l.part.items;
}
