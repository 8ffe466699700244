use Rattle.std.proofs.Common.{subst}
use Rattle.cert_check.specs.Starts.{IsStarted}
use Rattle.cert_check.proofs.AnswerLemmas.{narrow_headless}
use Rattle.cert_text.specs.declared.answers.Form.{Form}
use Rattle.cert_check.proofs.checking.check_form.Goals as goal

pub check_first-requires-clause-started : goal.check_first-requires-clause-started
check_first-requires-clause-started g c κs within =
    subst
    (λ (f : Form).
    IsStarted c.args.ex.now (g.F.Shelf.files c.args.shelf.now) c.args.name.now f c.args.head c.args.pieces)
    c.in-First.is c.requires.started

pub returns-in-First : goal.returns-in-First
returns-in-First g c =
    let it = c.check_first.ensures in
    record { judged = it.judged; wide = narrow_headless c.args.ex.now c.check_first.result it.narrow }

pub check_second-requires-clause-started : goal.check_second-requires-clause-started
check_second-requires-clause-started g c κs within =
    subst
    (λ (f : Form).
    IsStarted c.args.ex.now (g.F.Shelf.files c.args.shelf.now) c.args.name.now f c.args.head c.args.pieces)
    c.in-Second.is c.requires.started

pub returns-in-Second : goal.returns-in-Second
returns-in-Second g c =
    let it = c.check_second.ensures in
    record { judged = it.judged; wide = narrow_headless c.args.ex.now c.check_second.result it.narrow }

pub check_third-requires-clause-started : goal.check_third-requires-clause-started
check_third-requires-clause-started g c κs within =
    subst
    (λ (f : Form).
    IsStarted c.args.ex.now (g.F.Shelf.files c.args.shelf.now) c.args.name.now f c.args.head c.args.pieces)
    c.in-Third.is c.requires.started

pub returns-in-Third : goal.returns-in-Third
returns-in-Third g c =
    let it = c.check_third.ensures in
    record { judged = it.judged; wide = it.wide }
