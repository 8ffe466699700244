use Rattle.std.proofs.lemmas.Result.{err_from_is_err_and}
use Rattle.cert_text.proofs.HeadStops.{form-plain}
use Rattle.cert_text.proofs.PieceLemmas.{IfErr-map, IfOk-map, fixed-alone, reads-then, stops-behind, stops-first}
use Rattle.cert_text.proofs.scan.scan_head.Goals as goal

pub returns-in_err-digit-clause-err : goal.returns-in_err-digit-clause-err
returns-in_err-digit-clause-err c =
    let told = err_from_is_err_and c.from_residual.result c.from_residual.ensures.1 in
    let form = form-plain c.args.ex.now c.requires c.args.last in
    rw (told.1, told.2) (stops-first _ _ _ _ (fixed-alone _ _) (λ _ t text. form.live) c.in_err-digit.ensures.err)

pub returns-clause-ok : goal.returns-clause-ok
returns-clause-ok c =
    IfOk-map c.numbered.result (λ found read. reads-then _ _ _ _ _ _ _ c.in_ok-digit.ensures.ok read) c.numbered.ensures.ok

pub returns-clause-err : goal.returns-clause-err
returns-clause-err c =
    IfErr-map c.numbered.result
    (λ left stop. stops-behind _ _ _ _ _ _ (fixed-alone _ _) c.in_ok-digit.ensures.ok stop) c.numbered.ensures.err
