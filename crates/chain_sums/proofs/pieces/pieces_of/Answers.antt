use Rattle.std.proofs.Crossing.{crosses}
use denote.Param.Send.{sendable}
use Rattle.chain_sums.proofs.PieceLemmas.{full_chunk}
use Rattle.chain_sums.proofs.pieces.pieces_of.Goals as goal

pub map_chunks-requires-clause-accepts : goal.map_chunks-requires-clause-accepts
map_chunks-requires-clause-accepts g c κs within = λ start p is. (
  (
    c.requires.some,
    c.requires.place,
    c.requires.short,
    full_chunk (g.L.Links.chains c.args.links.now).voices c.args.piece start c.args.columns.now p.now c.requires.full is,
    c.requires.finished,
  ),
  (search (sendable, crosses) depth 20, search (sendable, crosses) depth 20),
)
