use Rattle.score_picture.proofs.ReadingLemmas.{marks-at, notes-fill, notes-say, ties-join}
use Rattle.score_picture.proofs.SignLemmas.{signs-heard}
use Rattle.written_notes.proofs.ValueSums.{values-add-up}
use Rattle.score_picture.proofs.laws.sheets_read_right.Goals as goal

pub returns-clause-signs : goal.returns-clause-signs
returns-clause-signs c = signs-heard

pub returns-clause-values : goal.returns-clause-values
returns-clause-values c = values-add-up

pub returns-clause-filled : goal.returns-clause-filled
returns-clause-filled c = notes-fill

pub returns-clause-cells : goal.returns-clause-cells
returns-clause-cells c = notes-say

pub returns-clause-ties : goal.returns-clause-ties
returns-clause-ties c = ties-join

pub returns-clause-marks : goal.returns-clause-marks
returns-clause-marks c = marks-at
