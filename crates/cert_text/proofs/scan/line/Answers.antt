use Rattle.std.proofs.Common.{◌*◌, sym, arith}
use Rattle.std.proofs.lemmas.Result.{err_from_is_err_and}
use Rattle.fux_grid.specs.declared.cell.Cell.TheVariants.{Rest}
use Rattle.cert_text.proofs.PieceLemmas.{IfErr-map, IfOk-map, fixed-alone, reads-then, stops-behind, stops-first}
use Rattle.cert_text.proofs.ItemRows.{items-live}
use Rattle.cert_text.proofs.scan.line.Goals as goal

pub returns-in_err-rest-clause-err : goal.returns-in_err-rest-clause-err
returns-in_err-rest-clause-err c =
    let told = err_from_is_err_and c.from_residual.result c.from_residual.ensures.1 in
    let bars = c.args.ex.now.bars in
    rw (told.1, told.2)
    (stops-first _ _ _ _ (fixed-alone _ _)
    (λ _ t text. items-live bars (8 * bars) 0 Rest (omega (arith, c.requires.fewest_bars)) (omega arith))
    (rw (sym c.sing_bytes.ensures) c.in_err-rest.ensures.err))

pub returns-clause-ok : goal.returns-clause-ok
returns-clause-ok c =
    IfOk-map c.items.result
    (λ rest read. reads-then _ _ _ _ _ _ _ (rw (sym c.sing_bytes.ensures) c.in_ok-rest.ensures.ok) read)
    c.items.ensures.ok

pub returns-clause-err : goal.returns-clause-err
returns-clause-err c =
    IfErr-map c.items.result
    (λ left stop. stops-behind _ _ _ _ _ _ (fixed-alone _ _) (rw (sym c.sing_bytes.ensures) c.in_ok-rest.ensures.ok) stop)
    c.items.ensures.err
