use Rattle.score_picture.specs.StaffRows.{name_row}
use Rattle.score_picture.proofs.staves.put_name.Goals as goal

pub returns : goal.returns
unfolding name_row
returns c = c.in_ok-write.ensures.bytes
