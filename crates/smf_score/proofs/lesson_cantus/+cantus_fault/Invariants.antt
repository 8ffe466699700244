use Rattle.std.proofs.Common.{length}
use Rattle.smf_score.proofs.lesson_cantus.+cantus_fault.Given as goal

abbrev pub decreases-cantus_fault : goal.decreases-cantus_fault
decreases-cantus_fault l = length l.cantus.now
