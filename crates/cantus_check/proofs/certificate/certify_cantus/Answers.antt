use Rattle.std.proofs.Common.{◌≡◌, ◌≢◌, Err, length, subst}
use Rattle.std.specs.Prelude.{OnOk}
use Rattle.cert_text.specs.declared.answers.CertWrite.TheVariants.{WriteFault}
use Rattle.cantus_check.specs.Claims.{Said}
use Rattle.cantus_check.proofs.WrittenCantus.{written_is_valid}
use Rattle.cantus_space.specs.declared.plan.CantusPlan.{CantusPlan}
use Rattle.cantus_check.specs.WrittenHeads.{said_with}
use Rattle.cantus_check.specs.Writing.{written_certificate}
use Rattle.cert_file.specs.Ends.{FailsShort}
use Rattle.fux_port.specs.Written.{appended}
use Rattle.cantus_check.proofs.certificate.certify_cantus.Goals as goal

pub returns-in_default-clause-valid : goal.returns-in_default-clause-valid
returns-in_default-clause-valid g c = written_is_valid c.args.space.now (said_with c.args.best) c.requires.holds

pub returns-clause-valid : goal.returns-clause-valid
returns-clause-valid g c = written_is_valid c.args.space.now (said_with c.args.best) c.requires.holds

pub returns-clause-ok : goal.returns-clause-ok
returns-clause-ok g c =
    let old = g.K.Sink.written c.args.sink.now in
    let new = g.K.Sink.written c.write_for_case.new.sink in
    let result = c.write_for_case.result in
    subst (λ (plan : CantusPlan). OnOk result (new ≡ appended old (written_certificate plan (said_with c.args.best))))
    c.in-Ok.ensures.space
    (subst (λ (said : Said). OnOk result (new ≡ appended old (written_certificate c.in-Ok.case.space said)))
    c.in-Ok.ensures.head c.write_for_case.ensures.ok)

pub returns-clause-short : goal.returns-clause-short
returns-clause-short g c =
    let old = g.K.Sink.written c.args.sink.now in
    let new = g.K.Sink.written c.write_for_case.new.sink in
    let result = c.write_for_case.result in
    subst (λ (plan : CantusPlan). FailsShort old new (written_certificate plan (said_with c.args.best)) result)
    c.in-Ok.ensures.space
    (subst (λ (said : Said). FailsShort old new (written_certificate c.in-Ok.case.space said) result)
    c.in-Ok.ensures.head c.write_for_case.ensures.short)

pub returns-clause-taken : goal.returns-clause-taken
returns-clause-taken g c =
    let serves = g.K.Sink.serves c.args.sink.now in
    let result = c.write_for_case.result in
    subst
    (λ (plan : CantusPlan). serves (length (written_certificate plan (said_with c.args.best))) → result ≢ Err WriteFault)
    c.in-Ok.ensures.space
    (subst (λ (said : Said). serves (length (written_certificate c.in-Ok.case.space said)) → result ≢ Err WriteFault)
    c.in-Ok.ensures.head c.write_for_case.ensures.taken)
