use Rattle.std.proofs.Common.{◌++◌, Some, ap, refl, subst, sym, ◌∙◌}
use Rattle.std.proofs.lemmas.Result.{err_from_is_err_and}
use Rattle.cert_text.proofs.HeadStops.{fixed-reads, fixed-stops}
use Rattle.cert_text.proofs.NumberLemmas.{numbers-alone}
use Rattle.cert_text.proofs.PieceLemmas.{fixed-alone, reads-then, stops-behind, stops-first}
use Rattle.cantus_check.specs.Heads.{closing_text}
use Rattle.cantus_check.specs.Rows.{ReadsBest}
use Rattle.cantus_check.proofs.HeadRows.{cantus-plain, names_row-plain, number-plain}
use Rattle.cantus_check.proofs.NameRows.{names-alone}
use Rattle.cantus_check.proofs.scan.best.Goals as goal

pub returns-in_err-digits-clause-err : goal.returns-in_err-digits-clause-err
returns-in_err-digits-clause-err c =
    let told = err_from_is_err_and c.from_residual.result c.from_residual.ensures.1 in
    rw (told.1, told.2) (stops-first _ _ _ _ (fixed-alone _ _) (λ _ t text. number-plain.live) c.in_err-digits.ensures.err)

pub returns-in_err-penalty-clause-err : goal.returns-in_err-penalty-clause-err
returns-in_err-penalty-clause-err c =
    let told = err_from_is_err_and c.from_residual-in_err-penalty.result c.from_residual-in_err-penalty.ensures.1 in
    rw (told.1, told.2)
    (stops-behind _ _ _ _ _ _ (fixed-alone _ _) c.in_ok-digits.ensures.ok
    (stops-first _ _ _ _ numbers-alone (λ penalty t text. (cantus-plain penalty).live) c.in_err-penalty.ensures.err))

pub returns-in_err-spaced-clause-err : goal.returns-in_err-spaced-clause-err
returns-in_err-spaced-clause-err c =
    let told = err_from_is_err_and c.from_residual-in_err-spaced.result c.from_residual-in_err-spaced.ensures.1 in
    let names = names_row-plain c.in_ok-penalty.penalty in
    rw (told.1, told.2)
    (stops-behind _ _ _ _ _ _ (fixed-alone _ _) c.in_ok-digits.ensures.ok
    (stops-behind _ _ _ _ _ _ numbers-alone c.in_ok-penalty.ensures.ok
    (stops-first _ _ _ _ (fixed-alone _ _) (λ _ t text. names.live) c.in_err-spaced.ensures.err)))

pub returns-in_err-behind-clause-err : goal.returns-in_err-behind-clause-err
returns-in_err-behind-clause-err c =
    let told = err_from_is_err_and c.from_residual-in_err-behind.result c.from_residual-in_err-behind.ensures.1 in
    rw (told.1, told.2)
    (stops-behind _ _ _ _ _ _ (fixed-alone _ _) c.in_ok-digits.ensures.ok
    (stops-behind _ _ _ _ _ _ numbers-alone c.in_ok-penalty.ensures.ok
    (stops-behind _ _ _ _ _ _ (fixed-alone _ _) c.in_ok-spaced.ensures.ok
    (stops-first _ _ _ _ (names-alone 3 24)
    (λ ps t text. (Some (c.in_ok-penalty.penalty, ps), closing_text, (refl, refl))) c.in_err-behind.ensures.err))))

pub returns-in_err-rest-clause-err : goal.returns-in_err-rest-clause-err
returns-in_err-rest-clause-err c =
    let told = err_from_is_err_and c.from_residual-in_err-rest.result c.from_residual-in_err-rest.ensures.1 in
    rw (told.1, told.2)
    (stops-behind _ _ _ _ _ _ (fixed-alone _ _) c.in_ok-digits.ensures.ok
    (stops-behind _ _ _ _ _ _ numbers-alone c.in_ok-penalty.ensures.ok
    (stops-behind _ _ _ _ _ _ (fixed-alone _ _) c.in_ok-spaced.ensures.ok
    (stops-behind _ _ _ _ _ _ (names-alone 3 24) c.in_ok-behind.ensures.ok.reads
    (fixed-stops _ _ c.in_ok-behind.behind.now c.in_err-rest.field-0.0 c.in_err-rest.ensures.err)))))

pub returns-clause-ok : goal.returns-clause-ok
returns-clause-ok c =
    let names = c.in_ok-behind.ensures.ok in
    subst (λ ps. ReadsBest c.args.bytes.now c.in_ok-penalty.penalty ps c.in_ok-rest.rest.now)
    (sym (names.put ∙ ap (λ ps. ps ++ names.read) c.requires.empty))
    (reads-then _ _ _ _ _ _ _ c.in_ok-digits.ensures.ok (reads-then _ _ _ _ _ _ _ c.in_ok-penalty.ensures.ok
    (reads-then _ _ _ _ _ _ _ c.in_ok-spaced.ensures.ok (reads-then _ _ _ _ _ _ _ names.reads
    (fixed-reads _ _ c.in_ok-behind.behind.now c.in_ok-rest.rest.now c.in_ok-rest.ensures.ok)))))
