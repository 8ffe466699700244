use Rattle.score_marker.proofs.ChargeLemmas.{charges_are_penalty, charges_have_marks}
use Rattle.score_marker.proofs.one_list.charges_are_whole.Goals as goal

pub returns-clause-penalty : goal.returns-clause-penalty
returns-clause-penalty c = charges_are_penalty

pub returns-clause-marks : goal.returns-clause-marks
returns-clause-marks c = charges_have_marks
