use Rattle.price_check.proofs.ReadLines.{read_lines_fit}
use Rattle.price_check.proofs.WrittenLines as written
use Rattle.price_check.proofs.line_law.lines_are_read.Goals as goal

pub returns-clause-written : goal.returns-clause-written
returns-clause-written c = written.lines_are_read

pub returns-clause-read : goal.returns-clause-read
returns-clause-read c = read_lines_fit
