use Rattle.written_notes.specs.Titles.{cantus_called}
use Rattle.written_notes.proofs.titles.put_cantus_called.Goals as goal

pub returns : goal.returns
unfolding cantus_called
returns c = c.in_ok-write.ensures.bytes
