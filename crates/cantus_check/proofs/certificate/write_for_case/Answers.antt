use Rattle.std.proofs.Common.{◌≡◌, ◌≢◌, ◌<◌, ◌++◌, ℕ, Err, List, length, ap, ◌∙◌, subst}
use Rattle.std.specs.Prelude.{OnOk}
use Rattle.cert_text.specs.declared.answers.CertWrite.TheVariants.{TooLong, WriteFault}
use Rattle.cantus_check.specs.Writer.{claims_of}
use Rattle.cantus_check.proofs.WrittenCantus.{all_true}
use Rattle.cantus_check.proofs.Fits.{own_fits}
use Rattle.cert_file.specs.Ends.{EndsUnwritten, FailsShort}
use Rattle.cert_file.specs.Writing.{claim_lines}
use Rattle.fux_port.specs.Written.{appended}
use Rattle.cantus_check.proofs.certificate.write_for_case.Goals as goal

pub write_with_claims-requires-clause-told : goal.write_with_claims-requires-clause-told
write_with_claims-requires-clause-told g c =
    all_true c.args.case.now.space c.args.case.now.head.best c.requires.holds

pub write_with_claims-requires-clause-lines : goal.write_with_claims-requires-clause-lines
write_with_claims-requires-clause-lines g c = own_fits c.args.case.now.space c.args.case.now.head.best

pub returns-clause-ok : goal.returns-clause-ok
returns-clause-ok g c =
    let claims = claim_lines (claims_of c.args.case.now.space c.args.case.now.head.best) in
    let whole = ap (λ bs. bs ++ claims) (c.as_str.ensures.value ∙ c.in-Ok.ensures) in
    subst
    (λ (bs : List ℕ). OnOk c.write_with_claims.result
    (g.K.Sink.written c.write_with_claims.new.sink ≡ appended (g.K.Sink.written c.args.sink.now) bs))
    whole c.write_with_claims.ensures.ok

pub returns-clause-short : goal.returns-clause-short
returns-clause-short g c =
    let claims = claim_lines (claims_of c.args.case.now.space c.args.case.now.head.best) in
    let whole = ap (λ bs. bs ++ claims) (c.as_str.ensures.value ∙ c.in-Ok.ensures) in
    subst
    (λ (bs : List ℕ). FailsShort (g.K.Sink.written c.args.sink.now) (g.K.Sink.written c.write_with_claims.new.sink) bs
    c.write_with_claims.result)
    whole c.write_with_claims.ensures.short

pub returns-clause-taken : goal.returns-clause-taken
returns-clause-taken g c =
    let claims = claim_lines (claims_of c.args.case.now.space c.args.case.now.head.best) in
    let whole = ap (λ bs. bs ++ claims) (c.as_str.ensures.value ∙ c.in-Ok.ensures) in
    subst
    (λ (bs : List ℕ). g.K.Sink.serves c.args.sink.now (length bs) → c.write_with_claims.result ≢ Err WriteFault)
    whole c.write_with_claims.ensures.taken

pub returns-clause-too_long : goal.returns-clause-too_long
returns-clause-too_long g c =
    let claims = claim_lines (claims_of c.args.case.now.space c.args.case.now.head.best) in
    let whole = ap (λ bs. bs ++ claims) (c.as_str.ensures.value ∙ c.in-Ok.ensures) in
    subst (λ (bs : List ℕ). c.write_with_claims.result ≡ Err TooLong → 1073741824 < length bs) whole
    c.write_with_claims.ensures.too_long

pub returns-clause-fits : goal.returns-clause-fits
returns-clause-fits g c =
    let claims = claim_lines (claims_of c.args.case.now.space c.args.case.now.head.best) in
    let whole = ap (λ bs. bs ++ claims) (c.as_str.ensures.value ∙ c.in-Ok.ensures) in
    subst (λ (bs : List ℕ). 1073741824 < length bs → EndsUnwritten c.write_with_claims.result) whole
    c.write_with_claims.ensures.fits
