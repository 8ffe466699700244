use Rattle.works.proofs.LittleLemmas.{loose_little}
use Rattle.works.proofs.gathering.report_list.Goals as goal

pub returns-in_ok-report_names-in-Ok-clause-little : goal.returns-in_ok-report_names-in-Ok-clause-little
returns-in_ok-report_names-in-Ok-clause-little g c =
    loose_little c.args.kind c.args.list.now c.in-Ok.names.items (g.F.Shelf.given c.args.shelf.now)
    (g.F.Shelf.given c.report_names.new.shelf) (λ bytes content. c.in-Ok.ensures bytes content)
    (rw c.deref.ensures.value at c.report_names.ensures.little)

pub returns-in_err-report_names-in-Ok-clause-little : goal.returns-in_err-report_names-in-Ok-clause-little
returns-in_err-report_names-in-Ok-clause-little g c =
    loose_little c.args.kind c.args.list.now c.in-Ok.names.items (g.F.Shelf.given c.args.shelf.now)
    (g.F.Shelf.given c.report_names.new.shelf) (λ bytes content. c.in-Ok.ensures bytes content)
    (rw c.deref.ensures.value at c.report_names.ensures.little)
