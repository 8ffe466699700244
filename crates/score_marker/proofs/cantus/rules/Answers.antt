use Rattle.std.proofs.Common.{rules}
use Rattle.score_marker.specs.Cantus.{cantus_rules}
use Rattle.score_marker.proofs.cantus.rules.Goals as goal

pub returns : goal.returns
unfolding cantus_rules
returns c = search rules
