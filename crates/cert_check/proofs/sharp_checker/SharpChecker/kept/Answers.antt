use Rattle.std.proofs.Common.{List, subst}
use Rattle.cert_file.specs.Checking.{Checking}
use Rattle.cert_check.specs.Settings.{Asked, IsSound, Opening}
use Rattle.cert_check.proofs.SharpChecks.{sharp_sound}
use Rattle.fux_grid.specs.declared.cell.Cell.{Cell}
use Rattle.cert_check.proofs.sharp_checker.SharpChecker.kept.Goals as goal

pub returns : goal.returns
returns c =
    subst (λ (k : Checking Asked Opening (List (List Cell))). IsSound k.asked.exercise k.asked.sheet k.head) c.self.view_is
    (sharp_sound c.self.inside.it c.self.invariant.case c.self.invariant.due)
