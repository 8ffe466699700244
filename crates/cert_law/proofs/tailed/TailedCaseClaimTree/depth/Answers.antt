use Rattle.std.proofs.Common.{ap}
use Rattle.cert_law.specs.Known.{Tailed}
use Rattle.fux_grid.specs.Exercises.{columns_in}
use Rattle.cert_law.proofs.tailed.TailedCaseClaimTree.depth.Goals as goal

pub returns : goal.returns
returns g c = ap (λ (t : Tailed). columns_in t.case.exercise) c.self.view_is
