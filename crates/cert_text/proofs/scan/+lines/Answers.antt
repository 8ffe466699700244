use Rattle.std.proofs.Common.{subst}
use Rattle.std.proofs.lemmas.Result.{err_from_is_err_and}
use Rattle.cert_text.specs.HeadRows.{SingLines}
use Rattle.cert_text.specs.Pieces.{Reads}
use Rattle.cert_text.proofs.ItemRows.{free_from-cantus, later-reads, later-stops, line-stops}
use Rattle.cert_text.proofs.PieceLemmas.{IfErr-map, IfOk-map}
use Rattle.cert_text.proofs.scan.+lines.Goals as goal

pub returns-then-v-ex-2-clause-ok : goal.returns-then-v-ex-2-clause-ok
returns-then-v-ex-2-clause-ok t c =
    IfOk-map c.lines.result
    (λ rest read. subst (λ vs. Reads (SingLines c.args.ex.now vs) c.args.bytes.now tt rest.now)
    (free_from-cantus c.args.ex.now c.args.v c.if-v-ex.false c.if-v-ex-2.true) read)
    c.lines.ensures.ok

pub returns-in_err-rest-clause-err : goal.returns-in_err-rest-clause-err
returns-in_err-rest-clause-err t c =
    let told = err_from_is_err_and c.from_residual.result c.from_residual.ensures.1 in
    rw (told.1, told.2)
    (line-stops c.args.ex.now c.args.v c.if-v-ex.false c.if-v-ex-2.false c.requires c.args.bytes.now
    c.in_err-rest.field-0.0 c.in_err-rest.ensures.err)

pub returns-clause-ok : goal.returns-clause-ok
returns-clause-ok t c =
    IfOk-map c.lines-2.result
    (λ rest read. later-reads c.args.ex.now c.args.v c.if-v-ex.false c.if-v-ex-2.false c.requires c.args.bytes.now
    c.in_ok-rest.rest.now c.in_ok-rest.ensures.ok rest.now read)
    c.lines-2.ensures.ok

pub returns-clause-err : goal.returns-clause-err
returns-clause-err t c =
    IfErr-map c.lines-2.result
    (λ left stop. later-stops c.args.ex.now c.args.v c.if-v-ex.false c.if-v-ex-2.false c.requires c.args.bytes.now
    c.in_ok-rest.rest.now c.in_ok-rest.ensures.ok left stop)
    c.lines-2.ensures.err
