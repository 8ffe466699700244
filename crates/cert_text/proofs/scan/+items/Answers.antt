use Rattle.std.proofs.Common.{◌+◌, ◌-◌, sym, subst, arith}
use Rattle.std.proofs.lemmas.Result.{err_from_is_err_and}
use Rattle.cert_text.specs.HeadRows.{Items}
use Rattle.cert_text.specs.Pieces.{Reads, Stops}
use Rattle.cert_text.proofs.ItemRows.{count-live, if_ends, if_more, if_stops, item-live, name-live, one_more, one_more_read, rest-live, with_one_more}
use Rattle.cert_text.proofs.NameLemmas.{names-alone}
use Rattle.cert_text.proofs.PieceLemmas.{IfErr-map, IfOk-map, byte-alone, fixed-alone, reads-then, stops-behind, stops-first}
use Rattle.cert_text.proofs.scan.+items.Goals as goal

pub returns-in_err-cell-clause-err : goal.returns-in_err-cell-clause-err
returns-in_err-cell-clause-err t c =
    let told = err_from_is_err_and c.from_residual.result c.from_residual.ensures.1 in
    let enough = with_one_more c.args.bars c.args.most c.args.i c.requires.here c.requires.enough in
    rw (told.1, told.2)
    (one_more c.args.bars c.args.most c.args.i c.args.before c.requires.here c.requires.enough c.args.bytes.now _
    (stops-first _ _ _ _ (names-alone c.args.i c.args.before)
    (λ cell t name. name-live c.args.bars (c.args.most - 1) c.args.i c.args.before c.requires.here enough cell)
    c.in_err-cell.ensures.err))

pub returns-in_err-digits-clause-err : goal.returns-in_err-digits-clause-err
returns-in_err-digits-clause-err t c =
    let told = err_from_is_err_and c.from_residual-in_err-digits.result c.from_residual-in_err-digits.ensures.1 in
    let enough = with_one_more c.args.bars c.args.most c.args.i c.requires.here c.requires.enough in
    rw (told.1, told.2)
    (one_more c.args.bars c.args.most c.args.i c.args.before c.requires.here c.requires.enough c.args.bytes.now _
    (stops-behind _ _ _ _ _ _ (names-alone c.args.i c.args.before) c.in_ok-cell.ensures.ok
    (stops-first _ _ _ _ (fixed-alone _ _)
    (λ _ t text. count-live c.args.bars (c.args.most - 1) c.args.i c.args.before c.requires.here enough c.in_ok-cell.cell)
    c.in_err-digits.ensures.err)))

pub returns-in_err-digit-clause-err : goal.returns-in_err-digit-clause-err
returns-in_err-digit-clause-err t c =
    let told = err_from_is_err_and c.from_residual-in_err-digit.result c.from_residual-in_err-digit.ensures.1 in
    let enough = with_one_more c.args.bars c.args.most c.args.i c.requires.here c.requires.enough in
    rw (told.1, told.2)
    (one_more c.args.bars c.args.most c.args.i c.args.before c.requires.here c.requires.enough c.args.bytes.now _
    (stops-behind _ _ _ _ _ _ (names-alone c.args.i c.args.before) c.in_ok-cell.ensures.ok
    (stops-behind _ _ _ _ _ _ (fixed-alone _ _) c.in_ok-digits.ensures.ok
    (stops-first _ _ _ _ (byte-alone _)
    (λ digit t text. item-live c.args.bars (c.args.most - 1) c.args.i c.args.before c.requires.here enough c.in_ok-cell.cell digit text.0)
    c.in_err-digit.ensures.err))))

pub returns-in_err-rest-clause-err : goal.returns-in_err-rest-clause-err
returns-in_err-rest-clause-err t c =
    let told = err_from_is_err_and c.from_residual-in_err-rest.result c.from_residual-in_err-rest.ensures.1 in
    let enough = with_one_more c.args.bars c.args.most c.args.i c.requires.here c.requires.enough in
    let digit = c.in_ok-digit.ensures.ok.2.0 in
    rw (told.1, told.2)
    (one_more c.args.bars c.args.most c.args.i c.args.before c.requires.here c.requires.enough c.args.bytes.now _
    (stops-behind _ _ _ _ _ _ (names-alone c.args.i c.args.before) c.in_ok-cell.ensures.ok
    (stops-behind _ _ _ _ _ _ (fixed-alone _ _) c.in_ok-digits.ensures.ok
    (stops-behind _ _ _ _ _ _ (byte-alone _) c.in_ok-digit.ensures.ok
    (stops-first _ _ _ _ (fixed-alone _ _)
    (λ _ t text. rest-live c.args.bars (c.args.most - 1) c.args.i c.args.before c.requires.here enough c.in_ok-cell.cell
    (c.args.i + (c.in_ok-digit.digit - 48)) (omega (arith, digit.0)) (omega (arith, digit.0, digit.1, c.requires.here)))
    (rw (sym c.behind_item.ensures) c.in_err-rest.ensures.err))))))

pub returns-then-next-bars-clause-ok : goal.returns-then-next-bars-clause-ok
returns-then-next-bars-clause-ok t c =
    one_more_read c.args.bars c.args.most c.args.i c.args.before c.requires.here c.requires.enough c.args.bytes.now _
    (reads-then _ _ _ _ _ _ _ c.in_ok-cell.ensures.ok (reads-then _ _ _ _ _ _ _ c.in_ok-digits.ensures.ok
    (reads-then _ _ _ _ _ _ _ c.in_ok-digit.ensures.ok
    (reads-then _ _ _ _ _ _ _ (rw (sym c.behind_item.ensures) c.in_ok-rest.ensures.ok)
    (if_ends c.args.bars (c.args.i + (c.in_ok-digit.digit - 48)) _ c.in_ok-rest.rest.now c.if-next-bars.true)))))

pub returns-clause-ok : goal.returns-clause-ok
returns-clause-ok t c =
    IfOk-map c.items.result (λ rest read.
    one_more_read c.args.bars c.args.most c.args.i c.args.before c.requires.here c.requires.enough c.args.bytes.now _
    (reads-then _ _ _ _ _ _ _ c.in_ok-cell.ensures.ok (reads-then _ _ _ _ _ _ _ c.in_ok-digits.ensures.ok
    (reads-then _ _ _ _ _ _ _ c.in_ok-digit.ensures.ok
    (reads-then _ _ _ _ _ _ _ (rw (sym c.behind_item.ensures) c.in_ok-rest.ensures.ok)
    (if_more c.args.bars (c.args.i + (c.in_ok-digit.digit - 48)) _ c.in_ok-rest.rest.now rest.now c.if-next-bars.false
    (subst (λ cell. Reads (Items c.args.bars (c.args.most - 1) (c.args.i + (c.in_ok-digit.digit - 48)) cell)
    c.in_ok-rest.rest.now tt rest.now) c.held.ensures read)))))))
    c.items.ensures.ok

pub returns-clause-err : goal.returns-clause-err
returns-clause-err t c =
    IfErr-map c.items.result (λ left stop.
    one_more c.args.bars c.args.most c.args.i c.args.before c.requires.here c.requires.enough c.args.bytes.now _
    (stops-behind _ _ _ _ _ _ (names-alone c.args.i c.args.before) c.in_ok-cell.ensures.ok
    (stops-behind _ _ _ _ _ _ (fixed-alone _ _) c.in_ok-digits.ensures.ok
    (stops-behind _ _ _ _ _ _ (byte-alone _) c.in_ok-digit.ensures.ok
    (stops-behind _ _ _ _ _ _ (fixed-alone _ _) (rw (sym c.behind_item.ensures) c.in_ok-rest.ensures.ok)
    (if_stops c.args.bars (c.args.i + (c.in_ok-digit.digit - 48)) _ c.in_ok-rest.rest.now left c.if-next-bars.false
    (subst (λ cell. Stops (Items c.args.bars (c.args.most - 1) (c.args.i + (c.in_ok-digit.digit - 48)) cell)
    c.in_ok-rest.rest.now left) c.held.ensures stop)))))))
    c.items.ensures.err
