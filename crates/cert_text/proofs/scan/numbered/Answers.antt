use Rattle.std.proofs.lemmas.Result.{err_from_is_err_and}
use Rattle.cert_text.proofs.HeadStops.{digit-alone, feed-plain}
use Rattle.cert_text.proofs.PieceLemmas.{IfErr-map, IfOk-map, reads-then, stops-behind, stops-first}
use Rattle.cert_text.proofs.scan.numbered.Goals as goal

pub returns-in_err-form-clause-err : goal.returns-in_err-form-clause-err
returns-in_err-form-clause-err c =
    let told = err_from_is_err_and c.from_residual.result c.from_residual.ensures.1 in
    rw (told.1, told.2)
    (stops-first _ _ _ _ (digit-alone c.args.last) (λ form t text. (feed-plain c.args.ex.now c.requires form).live)
    c.in_err-form.ensures.err)

pub returns-clause-ok : goal.returns-clause-ok
returns-clause-ok c =
    IfOk-map c.behind_form.result (λ found read. reads-then _ _ _ _ _ _ _ c.in_ok-form.ensures.ok read)
    c.behind_form.ensures.ok

pub returns-clause-err : goal.returns-clause-err
returns-clause-err c =
    IfErr-map c.behind_form.result
    (λ left stop. stops-behind _ _ _ _ _ _ (digit-alone c.args.last) c.in_ok-form.ensures.ok stop)
    c.behind_form.ensures.err
