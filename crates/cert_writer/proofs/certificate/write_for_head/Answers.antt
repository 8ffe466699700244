use Rattle.std.proofs.Common.{◌++◌, ℕ, List, length, string_bytes, ap, ◌∙◌, subst, sym, arith}
use Rattle.std.proofs.lemmas.Bool.{OnTrue_at}
use Rattle.cert_law.specs.Cases.{Matter}
use Rattle.cert_writer.specs.Stages.{all_lines}
use Rattle.cert_writer.proofs.Certificates.{whole_too_long, whole_within}
use Rattle.fux_port.specs.Written.{StopsShort, appended}
use Rattle.fux_port.proofs.Stands.{not_ok}
use Rattle.cert_writer.proofs.certificate.write_for_head.Goals as goal

pub is_within-requires-clause-stands : goal.is_within-requires-clause-stands
is_within-requires-clause-stands g c = (c.requires.task, c.begin.ensures.lines)

pub returns-then-not-is_within-clause-too_long : goal.returns-then-not-is_within-clause-too_long
returns-then-not-is_within-clause-too_long g c = λ _.
    let t : Matter = record { exercise = c.args.ex.now; sheet = c.args.sheet.now; head = c.args.head.now } in
    whole_too_long t c.args.form (string_bytes c.in-Ok.text) c.begin.new.lines c.begin.ensures c.in-Ok.ensures
    c.len.result c.is_within.result (c.len.ensures ∙ c.in-Ok.text.bytes.ok.0) c.is_within.ensures.fits
    c.if-not-is_within.true

pub write_counted-requires-clause-room : goal.write_counted-requires-clause-room
write_counted-requires-clause-room g c = c.is_within.ensures.stands.1.walk.is.room

pub write_counted-requires-clause-kept : goal.write_counted-requires-clause-kept
write_counted-requires-clause-kept g c = λ all.
    OnTrue_at c.if-not-is_within.false c.is_within.ensures.kept all ∙ c.begin.ensures.text

pub returns-in-Ok-write_counted-clause-ok : goal.returns-in-Ok-write_counted-clause-ok
returns-in-Ok-write_counted-clause-ok g c =
    let t : Matter = record { exercise = c.args.ex.now; sheet = c.args.sheet.now; head = c.args.head.now } in
    let whole = ap (λ bs. bs ++ all_lines t c.args.form) (c.as_str.ensures.value ∙ c.in-Ok.ensures) in
    c.in-Ok-write_counted.ensures.ok ∙ ap (appended (g.K.Sink.written c.args.sink.now)) whole

pub returns-in-Ok-write_counted-clause-fits : goal.returns-in-Ok-write_counted-clause-fits
returns-in-Ok-write_counted-clause-fits g c = λ more.
    let t : Matter = record { exercise = c.args.ex.now; sheet = c.args.sheet.now; head = c.args.head.now } in
    let few = whole_within t c.args.form (string_bytes c.in-Ok.text) c.begin.new.lines c.begin.ensures c.in-Ok.ensures
    c.len.result c.is_within.result (c.len.ensures ∙ c.in-Ok.text.bytes.ok.0) c.is_within.ensures.fits
    c.if-not-is_within.false in
    absurd (omega (arith, more, few))

pub returns-clause-short : goal.returns-clause-short
returns-clause-short g c = λ _.
    let t : Matter = record { exercise = c.args.ex.now; sheet = c.args.sheet.now; head = c.args.head.now } in
    let whole = ap (λ bs. bs ++ all_lines t c.args.form) (c.as_str.ensures.value ∙ c.in-Ok.ensures) in
    subst (λ (bs : List ℕ). StopsShort (g.K.Sink.written c.args.sink.now) (g.K.Sink.written c.write_counted.new.sink) bs)
    whole c.in-Err.ensures.err

pub returns-clause-fits : goal.returns-clause-fits
returns-clause-fits g c = λ more.
    let t : Matter = record { exercise = c.args.ex.now; sheet = c.args.sheet.now; head = c.args.head.now } in
    let few = whole_within t c.args.form (string_bytes c.in-Ok.text) c.begin.new.lines c.begin.ensures c.in-Ok.ensures
    c.len.result c.is_within.result (c.len.ensures ∙ c.in-Ok.text.bytes.ok.0) c.is_within.ensures.fits
    c.if-not-is_within.false in
    absurd (omega (arith, more, few))

pub returns-clause-taken : goal.returns-clause-taken
returns-clause-taken g c = λ promised fault.
    let t : Matter = record { exercise = c.args.ex.now; sheet = c.args.sheet.now; head = c.args.head.now } in
    let whole = ap (λ bs. bs ++ all_lines t c.args.form) (c.as_str.ensures.value ∙ c.in-Ok.ensures) in
    not_ok _ _ c.in-Err.is
    (c.write_counted.ensures.taken
    (subst (λ (bs : List ℕ). g.K.Sink.serves c.args.sink.now (length bs)) (sym whole) promised))
