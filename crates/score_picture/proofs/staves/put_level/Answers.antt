use Rattle.score_picture.specs.StaffRows.{level}
use Rattle.score_picture.proofs.staves.put_level.Goals as goal

pub returns : goal.returns
unfolding level
returns c = c.in_ok-write.ensures.bytes
