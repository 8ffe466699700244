use Rattle.class_marker.proofs.ListLemmas.{lists}
use Rattle.class_marker.proofs.list.lists_are_read.Goals as goal

pub returns-clause-names : goal.returns-clause-names
returns-clause-names c = λ text names. (lists text).0 names

pub returns-clause-faults : goal.returns-clause-faults
returns-clause-faults c = λ text line. (lists text).1 line
