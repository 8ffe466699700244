use Rattle.std.proofs.Common.{Err, ap, inl, inr, ◌∙◌}
use Rattle.cert_writer.proofs.Sizes.{within}
use Rattle.cert_writer.proofs.WrittenLines.{is_certificate, own_lines, own_told}
use Rattle.cert_writer.proofs.price_certificate.write_priced.Goals as goal

pub write_with_claims-requires-clause-told : goal.write_with_claims-requires-clause-told
write_with_claims-requires-clause-told g c =
    own_told c.args.it.now c.kept.ensures.case.valid c.requires.unmixed c.requires.holds c.kept.ensures.stated

pub write_with_claims-requires-clause-lines : goal.write_with_claims-requires-clause-lines
write_with_claims-requires-clause-lines g c =
    own_lines c.args.it.now c.kept.ensures.case.valid c.requires.unmixed c.requires.holds c.kept.ensures.stated

pub returns-in-Ok-clause-ok : goal.returns-in-Ok-clause-ok
returns-in-Ok-clause-ok g c =
    let s = c.args.it.now in
    let certificate = is_certificate s c.kept.ensures.case.valid c.requires.unmixed c.requires.holds
    c.kept.ensures.stated c.args.text.now c.requires.fit c.requires.small c.requires.text in
    record {
      bytes = _;
      certificate = certificate;
      ends = (
        within _
            (λ long. elim (c.write_with_claims.ensures.fits long)
            [ inl is ↦ cc (is, c.in-Ok.is) | inr is ↦ cc (is, c.in-Ok.is) ]),
        c.in-Ok.ensures.ok,
      );
    }

pub returns-in-Err-WriteFault-clause-cut : goal.returns-in-Err-WriteFault-clause-cut
returns-in-Err-WriteFault-clause-cut g c = λ _.
    let fault = c.in-Err-WriteFault.is ∙ ap Err c.in-Err-WriteFault.field-0-is in
    let s = c.args.it.now in
    let certificate = is_certificate s c.kept.ensures.case.valid c.requires.unmixed c.requires.holds
    c.kept.ensures.stated c.args.text.now c.requires.fit c.requires.small c.requires.text in
    record {
      bytes = _;
      certificate = certificate;
      ends = (
        within _
            (λ long. elim (c.write_with_claims.ensures.fits long) [ inl is ↦ cc (is, fault) | inr is ↦ cc (is, fault) ]),
        (c.write_with_claims.ensures.cause fault, λ promised. c.write_with_claims.ensures.taken promised fault),
        c.write_with_claims.ensures.short fault,
      );
    }

pub returns-in-Err-TooLong-clause-too_long : goal.returns-in-Err-TooLong-clause-too_long
returns-in-Err-TooLong-clause-too_long g c = λ _.
    let fault = c.in-Err-TooLong.is ∙ ap Err c.in-Err-TooLong.field-0-is in
    let s = c.args.it.now in
    let certificate = is_certificate s c.kept.ensures.case.valid c.requires.unmixed c.requires.holds
    c.kept.ensures.stated c.args.text.now c.requires.fit c.requires.small c.requires.text in
    record { bytes = _; certificate = certificate; ends = c.write_with_claims.ensures.too_long fault }
