use Rattle.std.proofs.Common.{Err, ap, inl, inr, refl, ◌∙◌}
use Rattle.fux_port.specs.Promises.{Fails}
use Rattle.cert_writer.specs.Heads.{head_with}
use Rattle.works.proofs.CertifyLemmas.{priced_cut, priced_long, priced_whole}
use Rattle.works.proofs.certifying.put_prices.Goals as goal

pub returns-in-Ok : goal.returns-in-Ok
returns-in-Ok g c =
    let space = c.args.space.now in
    priced_whole space.exercise space.sheet (head_with c.args.best) c.args.verdict
    (Fails g.K.Sink.faults g.K.Sink.serves c.args.out.now c.certify_prices.new.sink) _ _ c.in-Ok.ensures.ok

pub returns-in-Err-WriteFault : goal.returns-in-Err-WriteFault
returns-in-Err-WriteFault g c =
    let space = c.args.space.now in
    let fault = c.in-Err-WriteFault.is ∙ ap Err c.in-Err-WriteFault.field-0-is in
    priced_cut space.exercise space.sheet (head_with c.args.best) c.args.verdict
    (Fails g.K.Sink.faults g.K.Sink.serves c.args.out.now c.certify_prices.new.sink) _ _
    (c.certify_prices.ensures.cut fault)

pub returns-in-Err-TooLong : goal.returns-in-Err-TooLong
returns-in-Err-TooLong g c =
    let space = c.args.space.now in
    let fault = c.in-Err-TooLong.is ∙ ap Err c.in-Err-TooLong.field-0-is in
    priced_long space.exercise space.sheet (head_with c.args.best) c.args.verdict
    (Fails g.K.Sink.faults g.K.Sink.serves c.args.out.now c.certify_prices.new.sink) _ _
    (c.certify_prices.ensures.too_long fault) (c.certify_prices.ensures.unwritten (inl fault))

pub returns-in-Err-TooLarge : goal.returns-in-Err-TooLarge
returns-in-Err-TooLarge g c =
    let fault = c.in-Err-TooLarge.is ∙ ap Err c.in-Err-TooLarge.field-0-is in
    (c.certify_prices.ensures.unwritten (inr (inl fault)), (refl, c.certify_prices.ensures.large fault))
