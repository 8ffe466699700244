use Rattle.std.proofs.Common.{◌-◌, ◌++◌, Some, ap, length, refl, subst, sym, take, ◌∙◌}
use Rattle.std.proofs.lemmas.Result.{err_from_is_err_and}
use Rattle.fux_text.specs.Lines.{free_voices}
use Rattle.cert_text.specs.HeadRows.{SingLines, closing_text}
use Rattle.cert_text.specs.Pieces.{Literal, Reads, Stops}
use Rattle.cert_text.proofs.ItemRows.{free_from-all}
use Rattle.cert_text.proofs.Fronts.{front-taken}
use Rattle.cert_text.proofs.HeadStops.{fixed-reads, fixed-stops, itself-alone, itself-stops, lines_row-plain, number-plain, saying}
use Rattle.cert_text.proofs.NumberLemmas.{numbers-alone}
use Rattle.cert_text.proofs.PieceLemmas.{fixed-alone, reads-then, stops-behind, stops-first}
use Rattle.cert_text.proofs.scan.best.Goals as goal

pub returns-in_err-digits-clause-err : goal.returns-in_err-digits-clause-err
returns-in_err-digits-clause-err c =
    let told = err_from_is_err_and c.from_residual.result c.from_residual.ensures.1 in
    let number = number-plain c.args.ex.now c.requires c.args.form in
    rw (told.1, told.2) (stops-first _ _ _ _ (fixed-alone _ _) (λ _ t text. number.live) c.in_err-digits.ensures.err)

pub returns-in_err-penalty-clause-err : goal.returns-in_err-penalty-clause-err
returns-in_err-penalty-clause-err c =
    let told = err_from_is_err_and c.from_residual-in_err-penalty.result c.from_residual-in_err-penalty.ensures.1 in
    rw (told.1, told.2)
    (stops-behind _ _ _ _ _ _ (fixed-alone _ _) c.in_ok-digits.ensures.ok
    (stops-first _ _ _ _ numbers-alone
    (λ penalty t text. (lines_row-plain c.args.ex.now c.requires c.args.form penalty).live) c.in_err-penalty.ensures.err))

pub returns-in_err-behind-clause-err : goal.returns-in_err-behind-clause-err
returns-in_err-behind-clause-err c =
    let told = err_from_is_err_and c.from_residual-in_err-behind.result c.from_residual-in_err-behind.ensures.1 in
    rw (told.1, told.2)
    (stops-behind _ _ _ _ _ _ (fixed-alone _ _) c.in_ok-digits.ensures.ok
    (stops-behind _ _ _ _ _ _ numbers-alone c.in_ok-penalty.ensures.ok
    (stops-first _ _ _ _ (itself-alone c.args.ex.now c.requires)
    (λ lines t text. (saying c.args.form (Some c.in_ok-penalty.penalty) lines, closing_text c.args.form, (refl, refl)))
    (itself-stops (SingLines c.args.ex.now (free_voices c.args.ex.now)) c.in_ok-penalty.sung.now c.in_err-behind.field-0.0
    (subst (λ vs. Stops (SingLines c.args.ex.now vs) c.in_ok-penalty.sung.now c.in_err-behind.field-0.0)
    (free_from-all c.args.ex.now) c.in_err-behind.ensures.err)))))

pub returns-in_err-rest-clause-err : goal.returns-in_err-rest-clause-err
returns-in_err-rest-clause-err c =
    let told = err_from_is_err_and c.from_residual-in_err-rest.result c.from_residual-in_err-rest.ensures.1 in
    let lines = subst (λ vs. Reads (SingLines c.args.ex.now vs) c.in_ok-penalty.sung.now tt c.in_ok-behind.behind.now)
    (free_from-all c.args.ex.now) c.in_ok-behind.ensures.ok in
    rw (told.1, told.2)
    (stops-behind _ _ _ _ _ _ (fixed-alone _ _) c.in_ok-digits.ensures.ok
    (stops-behind _ _ _ _ _ _ numbers-alone c.in_ok-penalty.ensures.ok
    (stops-behind _ _ _ _ _ lines.0 (itself-alone c.args.ex.now c.requires) (lines.0, lines.1, (refl, lines.2))
    (fixed-stops _ _ c.in_ok-behind.behind.now c.in_err-rest.field-0.0
    (subst (λ text. Stops (Literal text) c.in_ok-behind.behind.now c.in_err-rest.field-0.0) c.closing.ensures
    c.in_err-rest.ensures.err)))))

pub returns-clause-ok : goal.returns-clause-ok
returns-clause-ok c =
    let sung = c.in_ok-penalty.sung.now in
    let behind = c.in_ok-behind.behind.now in
    let lines = subst (λ vs. Reads (SingLines c.args.ex.now vs) c.in_ok-penalty.sung.now tt c.in_ok-behind.behind.now)
    (free_from-all c.args.ex.now) c.in_ok-behind.ensures.ok in
    let front = front-taken sung lines.0 behind lines.1 in
    let own = take (length sung - length behind) sung in
    reads-then _ _ _ _ _ _ _ c.in_ok-digits.ensures.ok (reads-then _ _ _ _ _ _ _ c.in_ok-penalty.ensures.ok
    (reads-then _ _ _ _ _ own _ (
      own,
      lines.1 ∙ ap (λ w. w ++ behind) (sym front),
      (refl, subst (SingLines c.args.ex.now (free_voices c.args.ex.now) tt) (sym front) lines.2),
    )
    (fixed-reads _ _ behind c.in_ok-rest.rest.now
    (subst (λ text. Reads (Literal text) behind tt c.in_ok-rest.rest.now) c.closing.ensures c.in_ok-rest.ensures.ok))))
