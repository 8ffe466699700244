use Rattle.std.proofs.Common.{Err, ap, inl, inr, ◌∙◌}
use Rattle.fux_port.specs.Promises.{Fails}
use Rattle.cert_writer.specs.Heads.{head_with}
use Rattle.works.proofs.CertifyLemmas.{all_written, part_written, too_long}
use Rattle.works.proofs.certifying.put_numbers.Goals as goal

pub returns-in-Ok : goal.returns-in-Ok
returns-in-Ok g c =
    let space = c.args.space.now in
    all_written space.exercise space.sheet (head_with c.args.best) c.args.verdict c.requires.valid
    c.certify_form.ensures.small c.requires.holds
    (Fails g.K.Sink.faults g.K.Sink.serves c.args.out.now c.certify_form.new.sink) _ _ c.args.form c.requires.numbers
    (λ long. elim (c.certify_form.ensures.fits long) [ inl is ↦ cc (is, c.in-Ok.is) | inr is ↦ cc (is, c.in-Ok.is) ])
    c.in-Ok.ensures.ok

pub returns-in-Err-WriteFault : goal.returns-in-Err-WriteFault
returns-in-Err-WriteFault g c =
    let space = c.args.space.now in
    let fault = c.in-Err-WriteFault.is ∙ ap Err c.in-Err-WriteFault.field-0-is in
    part_written space.exercise space.sheet (head_with c.args.best) c.args.verdict c.requires.valid
    c.certify_form.ensures.small c.requires.holds
    (Fails g.K.Sink.faults g.K.Sink.serves c.args.out.now c.certify_form.new.sink) _ _ c.args.form c.requires.numbers
    (λ long. elim (c.certify_form.ensures.fits long) [ inl is ↦ cc (is, fault) | inr is ↦ cc (is, fault) ])
    (c.certify_form.ensures.cause fault, λ promised. c.certify_form.ensures.taken promised fault)
    (c.certify_form.ensures.short fault)

pub returns-in-Err-TooLong : goal.returns-in-Err-TooLong
returns-in-Err-TooLong g c =
    let space = c.args.space.now in
    let fault = c.in-Err-TooLong.is ∙ ap Err c.in-Err-TooLong.field-0-is in
    too_long space.exercise space.sheet (head_with c.args.best) c.args.verdict c.requires.valid
    c.certify_form.ensures.small c.requires.holds
    (Fails g.K.Sink.faults g.K.Sink.serves c.args.out.now c.certify_form.new.sink) _ _ c.args.form c.requires.numbers
    (c.certify_form.ensures.too_long fault) (c.certify_form.ensures.unwritten (inl fault))
