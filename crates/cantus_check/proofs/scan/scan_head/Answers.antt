use Rattle.std.proofs.lemmas.Result.{err_from_is_err_and}
use Rattle.cert_text.proofs.PieceLemmas.{IfErr-map, IfOk-map, fixed-alone, reads-then, stops-behind, stops-first}
use Rattle.cantus_check.proofs.HeadRows.{kinds-plain}
use Rattle.cantus_check.proofs.scan.scan_head.Goals as goal

pub returns-in_err-second-clause-err : goal.returns-in_err-second-clause-err
returns-in_err-second-clause-err c =
    let told = err_from_is_err_and c.from_residual.result c.from_residual.ensures.1 in
    rw (told.1, told.2) (stops-first _ _ _ _ (fixed-alone _ _) (λ _ t text. kinds-plain.live) c.in_err-second.ensures.err)

pub returns-clause-ok : goal.returns-clause-ok
returns-clause-ok c =
    IfOk-map c.kind.result (λ found read. reads-then _ _ _ _ _ _ _ c.in_ok-second.ensures.ok read) c.kind.ensures.ok

pub returns-clause-err : goal.returns-clause-err
returns-clause-err c =
    IfErr-map c.kind.result
    (λ left stop. stops-behind _ _ _ _ _ _ (fixed-alone _ _) c.in_ok-second.ensures.ok stop) c.kind.ensures.err
