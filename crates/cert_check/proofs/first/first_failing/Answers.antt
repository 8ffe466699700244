use Rattle.std.proofs.Common.{List, Bool, subst, sym}
use Rattle.cert_check.specs.First.{AreAnswers}
use Rattle.cert_check.proofs.FirstLemmas.{first_of_answers}
use Rattle.cert_check.proofs.first.first_failing.Goals as goal

pub returns : goal.returns
returns g c =
    let passes = g.T.Tests.passes c.args.tests.now in
    let count = g.T.Tests.size c.args.tests.now in
    first_of_answers passes count c.deref.result.now c.first_no.result
    (subst (λ (answers : List Bool). AreAnswers passes count answers) (sym c.deref.ensures.value) c.in_ok-found.ensures)
    c.first_no.ensures
