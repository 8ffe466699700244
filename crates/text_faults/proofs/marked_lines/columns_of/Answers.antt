use Rattle.std.proofs.Common.{false, ap, sym, ◌∙◌}
use Rattle.std.specs.Prelude.{chars}
use Rattle.unicode_width.specs.Width.{str_width}
use Rattle.text_faults.proofs.Rows.{columns-bytes, columns-text}
use Rattle.text_faults.proofs.marked_lines.columns_of.Goals as goal

pub returns-in-Ok : goal.returns-in-Ok
returns-in-Ok c =
    c.width.ensures.value ∙ ap (λ t. str_width false (chars t)) c.in-Ok.ensures.cases.0
    ∙ sym (columns-text c.args.bytes.now c.in-Ok.ensures.cases.1)

pub returns-in-Err : goal.returns-in-Err
returns-in-Err c = sym (columns-bytes c.args.bytes.now c.in-Err.ensures.cases.0)
