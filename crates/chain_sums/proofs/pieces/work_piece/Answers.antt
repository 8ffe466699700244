use Rattle.std.proofs.Common.{◌+◌, arith}
use Rattle.chain_sums.proofs.PieceLemmas.{entry_more, full_at}
use Rattle.chain_sums.proofs.pieces.work_piece.Goals as goal

pub least_behind-least-requires-clause-full : goal.least_behind-least-requires-clause-full
least_behind-least-requires-clause-full g c =
    full_at (g.L.Links.chains c.args.links.now).voices c.args.columns.now c.loop-k.k c.index-columns-k.result c.requires.full
    c.loop-k-test.true c.index-columns-k.is

pub loop-k-preserved : goal.loop-k-preserved
loop-k-preserved g c = record {
  room = omega (arith, c.loop-k.invariant.room, c.push_reserved.ensures.capacity);
  counted = omega (arith, c.loop-k.invariant.counted, c.push_reserved.ensures.len);
  entries = rw c.push_reserved.ensures.items
      (entry_more (g.L.Links.chains c.args.links.now) (c.args.i + 1) _ c.args.columns.now c.loop-k.part.items c.loop-k.k
      c.index-columns-k.result c.least_behind-least.result c.loop-k-test.true c.index-columns-k.is
      c.loop-k.invariant.entries c.least_behind-least.ensures);
}
