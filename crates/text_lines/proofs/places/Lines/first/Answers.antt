use Rattle.std.proofs.Common.{sym, ◌∙◌}
use Rattle.text_lines.proofs.LineParts.{line_found, no_line_found}
use Rattle.text_lines.proofs.places.Lines.first.Goals as goal

pub returns-then-not-is_skipped : goal.returns-then-not-is_skipped
returns-then-not-is_skipped c =
    line_found c.args.self.after c.loop-rest.number c.args.self.number c.loop-rest.rest.now c.args.self.rest.now
    c.split_line.result.0.now c.split_line.result.1.now c.loop-rest.invariant.so_far c.split_line.ensures.lines
    (sym c.is_skipped.ensures ∙ c.if-not-is_skipped.true)

pub returns : goal.returns
returns c =
    no_line_found c.args.self.after c.loop-rest.number c.args.self.number c.loop-rest.rest.now c.args.self.rest.now
    c.loop-rest.invariant.so_far (sym c.is_empty.ensures ∙ c.loop-rest-test.false)
