use Rattle.std.proofs.lemmas.Result.{IfOk-weaker}
use Rattle.class_marker.proofs.ReportLemmas.{gathered_is, small_parts}
use Rattle.class_marker.proofs.class.reports.Goals as goal

pub gathered-requires-clause-small : goal.gathered-requires-clause-small
gathered-requires-clause-small g c =
    small_parts c.args.names.now c.args.texts.now c.in_ok-parts.parts.items c.deref.result.now c.deref.ensures.value
    c.in_ok-parts.ensures.each

pub returns : goal.returns
returns g c =
    let parts = c.in_ok-parts in
    IfOk-weaker c.gathered.result _ _
    (λ report done. gathered_is c.args.names.now c.args.texts.now parts.parts.items c.deref.result.now report c.requires
    c.deref.ensures.value done parts.ensures.count parts.ensures.each)
    c.gathered.ensures
