use Rattle.score_picture.specs.StaffRows.{bar_number}
use Rattle.score_picture.proofs.staves.put_bar_number.Goals as goal

pub returns : goal.returns
unfolding bar_number
returns c = c.in_ok-write.ensures.bytes
