use Rattle.cantus_check.proofs.Unrefuted.{unrefuted_holds}
use Rattle.cantus_check.proofs.law.shown_by.Goals as goal

pub returns : goal.returns
returns c = λ claims valid.
    let it = c.args.case.now in
    unrefuted_holds it.space it.head.best valid.sound (c.shown_by.ensures claims valid.certified)
