use Rattle.score_picture.specs.Pictures.{penalty_row}
use Rattle.score_picture.proofs.foot.put_penalty_row.Goals as goal

pub returns : goal.returns
unfolding penalty_row
returns c = c.in_ok-write.ensures.bytes
