use Rattle.smf_score.proofs.NotesBack.{spelled_as}
use Rattle.smf_score.proofs.RoundTrip.{reads_back}
use Rattle.smf_score.proofs.read_back.scores_read_back.Goals as goal

pub returns : goal.returns
returns c = record { score = reads_back; spelling = spelled_as }
