use Rattle.std.proofs.Common.{◌-◌}
use Rattle.cert_text.proofs.scan.+lines.Given as goal

abbrev pub decreases-lines : goal.decreases-lines
decreases-lines l = l.ex.now.voices - l.v
