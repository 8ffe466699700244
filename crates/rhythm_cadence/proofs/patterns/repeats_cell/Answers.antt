use Rattle.std.proofs.Common.{◌-◌, ap, ◌∙◌, arith}
use Rattle.fux_grid.specs.Cells.{same_cell}
use Rattle.fux_grid.specs.Columns.{cell_at}
use Rattle.rhythm_cadence.proofs.patterns.repeats_cell.Goals as goal

pub returns : goal.returns
returns g c = λ s first shown from.
    c.is_same.ensures
    ∙ ap (λ d. same_cell d c.cell_around.result) (c.cell_around-before.ensures s first shown from)
    ∙ ap (same_cell (cell_at s c.args.v (c.args.i - 8))) (c.cell_around.ensures s first shown (omega (arith, from)))
