use Rattle.std.proofs.Common.{sym, ◌∙◌}
use Rattle.fux_judge.proofs.LateLemmas.{weightless}
use Rattle.fux_judge.proofs.late_tolls.weighed_charges_of.Goals as goal

pub returns-then-weight-eq0-clause-value : goal.returns-then-weight-eq0-clause-value
returns-then-weight-eq0-clause-value c = λ p col come.
    sym (weightless c.args.ex.now c.args.sheet.now p col c.args.toll (sym c.weight.ensures ∙ c.if-weight-eq0.true))
