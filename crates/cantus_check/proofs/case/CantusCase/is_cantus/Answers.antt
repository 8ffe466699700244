use Rattle.std.proofs.Common.{length, ap, ◌∙◌}
use Rattle.std.specs.Ordering.{is_eq}
use Rattle.cantus_check.proofs.Tellings.{cantus_truth}
use Rattle.cantus_check.proofs.case.CantusCase.is_cantus.Goals as goal

pub returns-then-known-as_slice : goal.returns-then-known-as_slice
returns-then-known-as_slice c = λ ps judged.
    cantus_truth c.args.self.now.head.best (c.in-Some.field-0-0, c.in-Some.cantus) c.in-Some.is ps c.args.known.now.order
    judged.order c.args.known.now.len c.is_eq.result judged.size
    (c.if-known-as_slice.true ∙ ap length c.as_slice.ensures) c.is_eq.ensures
