use Rattle.smf_score.proofs.ReadingLemmas.{reading_once}
use Rattle.smf_score.proofs.reading.one_reading.Goals as goal

pub returns : goal.returns
returns c = reading_once
