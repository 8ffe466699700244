use Rattle.std.proofs.Common.{sym, ◌∙◌}
use Rattle.std.proofs.lemmas.Result.{err_from_is_err_and}
use Rattle.text_lines.specs.Lines.{lines_of}
use Rattle.text_lines.proofs.Loops.{many-more, many-fail, many-all}
use Rattle.fux_text.specs.Relaxing.{relax_lines_of}
use Rattle.fux_text.proofs.relaxing.relaxes_in.Goals as goal

pub returns-in_err-line : goal.returns-in_err-line
returns-in_err-line c =
    let at = lines_of c.loop-rest.rest in
    let p = err_from_is_err_and c.from_residual.result c.from_residual.ensures.1 in
    rw (p.1, p.2)
    (many-fail c.in_err-line.field-0.0 (relax_lines_of c.args.ex.now) c.loop-rest.lines.items at.after at.lines _
    (rw (sym c.deref.ensures.value) (sym c.loop-rest-test.true ∙ c.goes_on.ensures)) c.in_err-line.ensures c.loop-rest.invariant)

pub loop-rest-smaller : goal.loop-rest-smaller
loop-rest-smaller c =
    let at = lines_of c.loop-rest.rest in
    (many-more (relax_lines_of c.args.ex.now) c.loop-rest.lines.items at.after at.lines c.in_ok-line.line
    (lines_of c.in_ok-line.behind) _ (rw (sym c.deref.ensures.value) (sym c.loop-rest-test.true ∙ c.goes_on.ensures)) c.in_ok-line.ensures c.loop-rest.invariant).1

pub loop-rest-preserved : goal.loop-rest-preserved
loop-rest-preserved c =
    let at = lines_of c.loop-rest.rest in
    rw c.in_ok-push.ensures.items
    (many-more (relax_lines_of c.args.ex.now) c.loop-rest.lines.items at.after at.lines c.in_ok-line.line
    (lines_of c.in_ok-line.behind) _ (rw (sym c.deref.ensures.value) (sym c.loop-rest-test.true ∙ c.goes_on.ensures)) c.in_ok-line.ensures c.loop-rest.invariant).0

pub returns : goal.returns
returns c =
    let at = lines_of c.loop-rest.rest in
    many-all (relax_lines_of c.args.ex.now) c.loop-rest.lines.items at.after at.lines _ (rw (sym c.deref.ensures.value) (sym c.loop-rest-test.false ∙ c.goes_on.ensures)) c.loop-rest.invariant
