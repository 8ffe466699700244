use Rattle.std.proofs.Common.{refl}
use Rattle.melody_rules.specs.GaugeParts.{place_in}
use Rattle.melody_rules.proofs.StrikeLemmas.{unstruck}
use Rattle.melody_rules.proofs.gauges.strikes.Q20Gauge.start.Goals as goal

pub returns : goal.returns
returns c = record { counts = λ p. unstruck (place_in p); beyond = refl }
