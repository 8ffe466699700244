use Rattle.std.proofs.Common.{length}
use Rattle.smf_score.proofs.orders.+sounds.Given as goal

abbrev pub decreases-sounds : goal.decreases-sounds
decreases-sounds l = length l.cantus.now
