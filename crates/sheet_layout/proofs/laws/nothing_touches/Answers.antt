use Rattle.sheet_layout.proofs.Apart.{bars-fit, slots-apart}
use Rattle.sheet_layout.proofs.Within.{within}
use Rattle.sheet_layout.proofs.laws.nothing_touches.Goals as goal

pub returns-clause-slots : goal.returns-clause-slots
returns-clause-slots c = slots-apart

pub returns-clause-bars : goal.returns-clause-bars
returns-clause-bars c = bars-fit

pub returns-clause-notes : goal.returns-clause-notes
returns-clause-notes c = within
