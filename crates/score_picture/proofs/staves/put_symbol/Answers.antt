use Rattle.score_picture.specs.StaffRows.{symbol_at}
use Rattle.score_picture.proofs.staves.put_symbol.Goals as goal

pub returns : goal.returns
unfolding symbol_at
returns c = c.in_ok-write.ensures.bytes
