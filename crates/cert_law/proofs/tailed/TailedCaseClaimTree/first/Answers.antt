use Rattle.std.proofs.Common.{[], subst}
use Rattle.cert_law.specs.Known.{IsKnown, Tailed}
use Rattle.cert_law.proofs.tailed.TailedCaseClaimTree.first.Goals as goal

pub returns : goal.returns
returns g c = subst (λ (t : Tailed). IsKnown t c.first_known.result []) c.self.view_is c.first_known.ensures
