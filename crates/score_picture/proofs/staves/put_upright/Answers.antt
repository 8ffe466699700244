use Rattle.score_picture.specs.StaffRows.{upright}
use Rattle.score_picture.proofs.staves.put_upright.Goals as goal

pub returns : goal.returns
unfolding upright
returns c = c.in_ok-write.ensures.bytes
