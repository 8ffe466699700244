use Rattle.std.proofs.Common.{slice_index_or, ap, sym, ◌∙◌, arith}
use Rattle.std.specs.Ordering.{ordering_then}
use Rattle.fux_grid.specs.Order.{pitch_order}
use Rattle.cantus_check.specs.Writer.{pitches_order}
use Rattle.cantus_check.proofs.OrderSteps.{order-past, order-push}
use Rattle.cantus_check.proofs.case.order_after.Goals as goal

pub returns-then-len-cantus : goal.returns-then-len-cantus
returns-then-len-cantus c = λ ps size before.
    let s = c.args.cantus.now in
    let d = c.index-cantus-len.result in
    c.then.ensures ∙ ap (λ o. ordering_then o c.pitch_order.result) before
    ∙ ap (ordering_then (pitches_order s ps))
    (c.pitch_order.ensures
    ∙ ap (λ q. pitch_order q c.args.pitch) (c.index-cantus-len.is ∙ ap (λ i. slice_index_or s i d) size))
    ∙ sym (order-push s ps c.args.pitch d (omega (arith, c.if-len-cantus.true, size)))

pub returns-else-len-cantus : goal.returns-else-len-cantus
returns-else-len-cantus c = λ ps size before.
    before ∙ sym (order-past c.args.cantus.now ps c.args.pitch (omega (arith, c.if-len-cantus.false, size)))
