use Rattle.std.proofs.Common.{◌∙◌}
use Rattle.cert_check.proofs.CellTests.{cell_among}
use Rattle.fux_grid.specs.Menus.{cells_at}
use Rattle.cert_check.proofs.head.allows_cell.Goals as goal

pub returns : goal.returns
returns c =
    cell_among (cells_at c.args.ex.now c.args.i c.args.v) c.as_slice.result.now c.args.cell c.contains.result
    (c.as_slice.ensures.value ∙ c.voice_cells.ensures) c.contains.ensures.value
