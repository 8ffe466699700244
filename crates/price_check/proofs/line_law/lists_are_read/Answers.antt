use Rattle.price_check.proofs.WholeLists as whole
use Rattle.price_check.proofs.line_law.lists_are_read.Goals as goal

pub returns-clause-written : goal.returns-clause-written
returns-clause-written c = whole.lists_are_read

pub returns-clause-read : goal.returns-clause-read
returns-clause-read c = whole.read_lists_fit
