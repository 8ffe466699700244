use Rattle.std.proofs.Common.{◌++◌, ap, ◌∙◌}
use Rattle.written_notes.specs.Sheets.{sheet_notes}
use Rattle.sheet_layout.proofs.spacing.put_notes.Goals as goal

pub returns : goal.returns
returns c =
    c.in_ok-extend_from_slice.ensures.items
    ∙ ap (λ notes. c.args.all.now.items ++ notes)
    (c.as_slice.ensures.value ∙ c.sheet_notes-notes.ensures
    ∙ ap (λ line. sheet_notes c.args.ex.now c.args.v line c.args.bar) c.line_at.ensures)
