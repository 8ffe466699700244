use Rattle.cert_check.proofs.FirstLemmas.{first_is_one}
use Rattle.cert_check.proofs.one.first_failing_is_one.Goals as goal

pub returns : goal.returns
returns g c = first_is_one (g.T.Tests.passes c.args._tests.now) (g.T.Tests.size c.args._tests.now)
