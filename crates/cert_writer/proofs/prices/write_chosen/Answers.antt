use Rattle.std.proofs.Common.{Err, ap, ◌∙◌}
use Rattle.cert_writer.proofs.prices.write_chosen.Goals as goal

pub returns-in-Err-TooLarge-clause-ok : goal.returns-in-Err-TooLarge-clause-ok
returns-in-Err-TooLarge-clause-ok g c =
    let fault = c.in-Err-TooLarge.is ∙ ap Err c.in-Err-TooLarge.field-0-is in
    rw (c.write_by_lines.ensures.untouched fault) at c.write_least.ensures.ok

pub returns-in-Err-TooLarge-clause-cut : goal.returns-in-Err-TooLarge-clause-cut
returns-in-Err-TooLarge-clause-cut g c =
    let fault = c.in-Err-TooLarge.is ∙ ap Err c.in-Err-TooLarge.field-0-is in
    rw (c.write_by_lines.ensures.untouched fault) at c.write_least.ensures.cut

pub returns-in-Err-TooLarge-clause-unwritten : goal.returns-in-Err-TooLarge-clause-unwritten
returns-in-Err-TooLarge-clause-unwritten g c =
    let fault = c.in-Err-TooLarge.is ∙ ap Err c.in-Err-TooLarge.field-0-is in
    rw (c.write_by_lines.ensures.untouched fault) at c.write_least.ensures.unwritten
