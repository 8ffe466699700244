use Rattle.std.proofs.Common.{ap, ◌∙◌}
use Rattle.cert_law.specs.Known.{Tailed}
use Rattle.fux_grid.specs.Exercises.{columns_in}
use Rattle.price_check.specs.Sharps.{Sharp}
use Rattle.price_check.proofs.sharp_case.SharpCaseClaimTree.depth.Goals as goal

pub returns : goal.returns
returns c =
    c.depth.ensures ∙ ap (λ (t : Tailed). columns_in t.case.exercise) c.self.invariant.without
    ∙ ap (λ (s : Sharp). columns_in s.case.exercise) c.self.view_is
