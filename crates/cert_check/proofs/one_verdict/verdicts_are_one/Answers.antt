use Rattle.cert_check.proofs.RefusedLemmas.{one_verdict}
use Rattle.cert_check.proofs.one_verdict.verdicts_are_one.Goals as goal

pub returns : goal.returns
returns c = one_verdict
