use Rattle.cantus_check.proofs.WrittenCantus.{written_is_valid}
use Rattle.cantus_check.proofs.law.written.Goals as goal

pub returns : goal.returns
returns c = written_is_valid c.args.case.now.space c.args.case.now.head.best
