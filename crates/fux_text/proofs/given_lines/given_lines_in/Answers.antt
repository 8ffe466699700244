use Rattle.std.proofs.Common.{sym, ◌∙◌}
use Rattle.std.proofs.lemmas.Result.{err_from_is_err_and}
use Rattle.text_lines.specs.Lines.{lines_of}
use Rattle.text_lines.proofs.Loops.{many-more, many-fail, many-all}
use Rattle.fux_text.specs.GivenLines.{given_lines_of}
use Rattle.fux_text.proofs.given_lines.given_lines_in.Goals as goal

pub returns-in_err-line : goal.returns-in_err-line
returns-in_err-line c =
    let at = lines_of c.loop-alloc.rest in
    let p = err_from_is_err_and c.from_residual.result c.from_residual.ensures.1 in
    rw (p.1, p.2)
    (many-fail c.in_err-line.field-0.0 (given_lines_of c.args.version c.args.ex.now) c.loop-alloc.lines.items at.after at.lines _
    (sym c.loop-alloc-test.true ∙ c.goes_on.ensures) (rw (sym c.deref-in-loop-alloc.ensures.value) c.in_err-line.ensures) c.loop-alloc.invariant)

pub loop-alloc-smaller : goal.loop-alloc-smaller
loop-alloc-smaller c =
    let at = lines_of c.loop-alloc.rest in
    (many-more (given_lines_of c.args.version c.args.ex.now) c.loop-alloc.lines.items at.after at.lines c.in_ok-line.line
    (lines_of c.in_ok-line.behind) _ (sym c.loop-alloc-test.true ∙ c.goes_on.ensures) (rw (sym c.deref-in-loop-alloc.ensures.value) c.in_ok-line.ensures) c.loop-alloc.invariant).1

pub loop-alloc-preserved : goal.loop-alloc-preserved
loop-alloc-preserved c =
    let at = lines_of c.loop-alloc.rest in
    rw c.in_ok-push.ensures.items
    (many-more (given_lines_of c.args.version c.args.ex.now) c.loop-alloc.lines.items at.after at.lines c.in_ok-line.line
    (lines_of c.in_ok-line.behind) _ (sym c.loop-alloc-test.true ∙ c.goes_on.ensures) (rw (sym c.deref-in-loop-alloc.ensures.value) c.in_ok-line.ensures) c.loop-alloc.invariant).0

pub returns : goal.returns
returns c =
    let at = lines_of c.loop-alloc.rest in
    many-all (given_lines_of c.args.version c.args.ex.now) c.loop-alloc.lines.items at.after at.lines _ (sym c.loop-alloc-test.false ∙ c.goes_on.ensures) c.loop-alloc.invariant
