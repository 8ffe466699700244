use Rattle.std.proofs.Common.{◌≡◌, ◌≤◌, length}
use Rattle.std.specs.Prelude.{vec_capacity, vec_len}
use Rattle.std.specs.List.{All}
use Rattle.chain_sums.specs.Moves.{AreMovesTo}
use Rattle.chain_sums.proofs.moves.VoiceMoves.new.Given as goal

abbrev pub invariant-loop-k : goal.invariant-loop-k
invariant-loop-k g l = record {
  room : length l.cells.items ≤ vec_capacity l.from;
  counted : vec_len l.from ≡ l.k;
  are : All (λ from. AreMovesTo (g.L.Links.moves l.links l.i l.v from.cell) l.to.items from.costs.items) l.from.items;
}
