use Rattle.smf_score.proofs.JoinRoundTrip.{joins_back}
use Rattle.smf_score.proofs.join_back.settings_join_back.Goals as goal

pub returns : goal.returns
returns c = joins_back
