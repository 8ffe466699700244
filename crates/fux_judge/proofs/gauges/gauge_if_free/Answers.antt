use Rattle.fux_judge.proofs.gauges.gauge_if_free.Goals as goal

pub returns : goal.returns
returns c = λ cells long free is. c.gauge.ensures cells long is
