use Rattle.std.proofs.Common.{Err, ap, inl, inr, ◌∙◌}
use Rattle.fux_port.specs.Promises.{Fails}
use Rattle.cantus_check.specs.WrittenHeads.{said_with}
use Rattle.works.proofs.CantusCertifyLemmas.{all_written, part_written, too_long}
use Rattle.works.proofs.cantus_certifying.put_certificate.Goals as goal

pub returns-in-Ok : goal.returns-in-Ok
returns-in-Ok g c =
    all_written c.args.space.now (said_with c.args.best) c.args.verdict c.requires.holds
    (Fails g.K.Sink.faults g.K.Sink.serves c.args.out.now c.certify_cantus.new.sink) _ _
    (λ long. elim (c.certify_cantus.ensures.fits long) [ inl is ↦ cc (is, c.in-Ok.is) | inr is ↦ cc (is, c.in-Ok.is) ])
    c.in-Ok.ensures.ok

pub returns-in-Err-WriteFault : goal.returns-in-Err-WriteFault
returns-in-Err-WriteFault g c =
    let fault = c.in-Err-WriteFault.is ∙ ap Err c.in-Err-WriteFault.field-0-is in
    part_written c.args.space.now (said_with c.args.best) c.args.verdict c.requires.holds
    (Fails g.K.Sink.faults g.K.Sink.serves c.args.out.now c.certify_cantus.new.sink) _ _
    (λ long. elim (c.certify_cantus.ensures.fits long) [ inl is ↦ cc (is, fault) | inr is ↦ cc (is, fault) ])
    (c.certify_cantus.ensures.cause fault, λ promised. c.certify_cantus.ensures.taken promised fault)
    (c.certify_cantus.ensures.short fault)

pub returns-in-Err-TooLong : goal.returns-in-Err-TooLong
returns-in-Err-TooLong g c =
    let fault = c.in-Err-TooLong.is ∙ ap Err c.in-Err-TooLong.field-0-is in
    too_long c.args.space.now (said_with c.args.best) c.args.verdict c.requires.holds
    (Fails g.K.Sink.faults g.K.Sink.serves c.args.out.now c.certify_cantus.new.sink) _ _
    (c.certify_cantus.ensures.too_long fault) (c.certify_cantus.ensures.unwritten (inl fault))
