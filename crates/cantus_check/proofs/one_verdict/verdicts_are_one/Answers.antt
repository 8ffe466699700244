use Rattle.cantus_check.proofs.HeadRows.{heads-alone}
use Rattle.cert_file.proofs.OneVerdict.{one_verdict}
use Rattle.cantus_check.specs.Topics.{cantus_subject}
use Rattle.cantus_check.proofs.RefusedLemmas.{cantus_once}
use Rattle.cantus_check.proofs.one_verdict.verdicts_are_one.Goals as goal

pub returns : goal.returns
returns c = λ plan bytes it other p q.
    one_verdict (cantus_subject plan) heads-alone bytes (cantus_once plan bytes) it other p q
