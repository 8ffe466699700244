use Rattle.works.proofs.NewCantusLemmas.{new_cantus_is_read}
use Rattle.works.proofs.ReadBackLemmas as back
use Rattle.works.proofs.law.written_is_read.Goals as goal

pub returns : goal.returns
returns c = record { composed = back.composed_is_read; best = back.best_is_read; mixed = back.mixed_is_read; cantus = new_cantus_is_read }
