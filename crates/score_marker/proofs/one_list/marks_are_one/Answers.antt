use Rattle.score_marker.proofs.UniqueLemmas.{cantus_marks_are_unique, marks_are_unique}
use Rattle.score_marker.proofs.one_list.marks_are_one.Goals as goal

pub returns-clause-setting : goal.returns-clause-setting
returns-clause-setting c = marks_are_unique

pub returns-clause-cantus : goal.returns-clause-cantus
returns-clause-cantus c = cantus_marks_are_unique
