use Rattle.std.proofs.Common.{◌∙◌, ap, filter, sym}
use Rattle.fux_grid.specs.Givens.{fits}
use Rattle.fux_grid.specs.Menus.{open_cells}
use Rattle.fux_grid.proofs.CellLemmas.{filter-blank}
use Rattle.fux_grid.proofs.menus.free_voice_cells.Goals as goal

pub returns-in-Blank : goal.returns-in-Blank
returns-in-Blank c =
    let cells = open_cells c.args.ex.now c.args.i c.args.v in
    c.open_cells-cells.ensures ∙ filter-blank cells
    ∙ ap (λ given. filter (fits given) cells) (sym c.in-Blank.is ∙ c.given_at.ensures)
