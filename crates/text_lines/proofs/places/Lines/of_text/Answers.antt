use Rattle.std.proofs.Common.{sym, ap, ◌∙◌, Ok}
use Rattle.text_lines.proofs.Faulty.{text_in-ok, text_in-utf8}
use Rattle.text_lines.proofs.places.Lines.of_text.Goals as goal

pub returns-in-Ok : goal.returns-in-Ok
returns-in-Ok g c =
    text_in-ok c.args.too_long c.args.not_utf8 c.args.bytes.now c.if-bytes-gt65536.false c.in-Ok.ensures.cases.1 ∙ ap Ok (sym c.new.ensures)

pub returns-in-Err : goal.returns-in-Err
returns-in-Err g c =
    rw c.fault_of_utf8.ensures (text_in-utf8 c.args.too_long c.args.not_utf8 c.args.bytes.now c.if-bytes-gt65536.false c.in-Err.ensures.cases.0)
