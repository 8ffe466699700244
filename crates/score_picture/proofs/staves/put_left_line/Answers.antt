use Rattle.score_picture.specs.StaffRows.{left_line}
use Rattle.score_picture.proofs.staves.put_left_line.Goals as goal

pub returns : goal.returns
unfolding left_line
returns c = c.in_ok-write.ensures.bytes
