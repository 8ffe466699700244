use Rattle.works.proofs.WholeLemmas.{alone_said}
use Rattle.works.proofs.gathering.say_read.Goals as goal

pub returns-in-None : goal.returns-in-None
returns-in-None c = rw c.in-None.is (alone_said c.args.kind c.args.found.now c.say.result c.say.ensures)
