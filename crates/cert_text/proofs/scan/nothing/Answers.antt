use Rattle.std.proofs.Common.{None, [], subst}
use Rattle.std.proofs.lemmas.Result.{err_from_is_err_and}
use Rattle.cert_text.specs.HeadRows.{none_rest}
use Rattle.cert_text.specs.Pieces.{Literal, Reads, Stops}
use Rattle.cert_text.proofs.HeadStops.{fixed-reads, fixed-stops, saying}
use Rattle.cert_text.proofs.scan.nothing.Goals as goal

pub returns-in_err-rest-clause-err : goal.returns-in_err-rest-clause-err
returns-in_err-rest-clause-err c =
    let told = err_from_is_err_and c.from_residual.result c.from_residual.ensures.1 in
    rw (told.1, told.2)
    (fixed-stops (saying c.args.form None []) (none_rest c.args.form) c.args.bytes.now c.in_err-rest.field-0.0
    (subst (λ text. Stops (Literal text) c.args.bytes.now c.in_err-rest.field-0.0) c.none_rest.ensures
    c.in_err-rest.ensures.err))

pub returns-clause-ok : goal.returns-clause-ok
returns-clause-ok c =
    fixed-reads (saying c.args.form None []) (none_rest c.args.form) c.args.bytes.now c.in_ok-rest.rest.now
    (subst (λ text. Reads (Literal text) c.args.bytes.now tt c.in_ok-rest.rest.now) c.none_rest.ensures
    c.in_ok-rest.ensures.ok)
