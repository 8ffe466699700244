use Rattle.std.proofs.Common.{◌*◌, subst}
use Rattle.std.proofs.lemmas.Result.{IfOk-weaker}
use Rattle.class_marker.specs.Reports.{Exercises, IsPart}
use Rattle.class_marker.proofs.ReportLemmas.{zip-chunk}
use Rattle.class_marker.proofs.class.parts_of.Goals as goal

pub returns-clause-each : goal.returns-clause-each
returns-clause-each g c = λ n d h.
    let at = (c.in_ok-map_chunks.ensures.each n d h).1 in
    let chunk = at.argument_is in
    IfOk-weaker _ _ _
    (λ part is. subst (λ (es : Exercises). IsPart es part)
    (zip-chunk c.args.names.now c.args.texts.now at.argument.now 32 (n * 32) c.requires chunk.value chunk.len) is)
    at.call
