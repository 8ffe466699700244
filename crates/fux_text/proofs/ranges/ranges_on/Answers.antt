use Rattle.std.proofs.Common.{sym, ◌∙◌}
use Rattle.std.proofs.lemmas.Result.{err_from_is_err_and}
use Rattle.text_lines.specs.Lines.{lines_of}
use Rattle.text_lines.proofs.Loops.{many-more, many-fail, many-all}
use Rattle.fux_text.specs.Ranges.{range_lines_of}
use Rattle.fux_text.proofs.ranges.ranges_on.Goals as goal

pub returns-in_err-line : goal.returns-in_err-line
returns-in_err-line c =
    let at = lines_of c.loop-rest.rest in
    let p = err_from_is_err_and c.from_residual.result c.from_residual.ensures.1 in
    rw (p.1, p.2)
    (many-fail c.in_err-line.field-0.0 (range_lines_of c.args.ex.now) c.loop-rest.ranges.items at.after at.lines _
    (sym c.loop-rest-test.true ∙ c.begins.ensures) (rw (sym c.deref.ensures.value) c.in_err-line.ensures) c.loop-rest.invariant)

pub loop-rest-smaller : goal.loop-rest-smaller
loop-rest-smaller c =
    let at = lines_of c.loop-rest.rest in
    (many-more (range_lines_of c.args.ex.now) c.loop-rest.ranges.items at.after at.lines c.in_ok-line.line
    (lines_of c.in_ok-line.behind) _ (sym c.loop-rest-test.true ∙ c.begins.ensures) (rw (sym c.deref.ensures.value) c.in_ok-line.ensures) c.loop-rest.invariant).1

pub loop-rest-preserved : goal.loop-rest-preserved
loop-rest-preserved c =
    let at = lines_of c.loop-rest.rest in
    rw c.in_ok-push.ensures.items
    (many-more (range_lines_of c.args.ex.now) c.loop-rest.ranges.items at.after at.lines c.in_ok-line.line
    (lines_of c.in_ok-line.behind) _ (sym c.loop-rest-test.true ∙ c.begins.ensures) (rw (sym c.deref.ensures.value) c.in_ok-line.ensures) c.loop-rest.invariant).0

pub returns : goal.returns
returns c =
    let at = lines_of c.loop-rest.rest in
    many-all (range_lines_of c.args.ex.now) c.loop-rest.ranges.items at.after at.lines _ (sym c.loop-rest-test.false ∙ c.begins.ensures) c.loop-rest.invariant
