use Rattle.std.proofs.Common.{ap, ◌∙◌}
use Rattle.written_notes.specs.Bars.{bar_cells, cells_notes}
use Rattle.written_notes.proofs.bar.bar_notes.Goals as goal

pub returns : goal.returns
returns c =
    c.notes_of.ensures ∙ ap (λ cells. cells_notes cells c.cell_of.result) c.bar_cells-cells.ensures.value
    ∙ ap (cells_notes (bar_cells c.args.line.now c.args.bar)) c.cell_of.ensures
