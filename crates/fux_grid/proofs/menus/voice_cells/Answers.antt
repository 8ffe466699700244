use Rattle.std.proofs.Common.{◌≡◌, ◌/◌, ◌∷◌, ◌++◌, [], ap, get_or, sym, ◌∙◌, arith}
use Rattle.fux_grid.proofs.CellLemmas.{cells_at-cantus, cantus_cells-one, cells_at-free}
use Rattle.fux_grid.proofs.menus.voice_cells.Goals as goal

pub returns-then-v-ex : goal.returns-then-v-ex
returns-then-v-ex c = c.free_voice_cells.ensures ∙ sym (cells_at-free c.args.ex.now c.args.i c.args.v c.if-v-ex.true)

pub returns : goal.returns
returns c =
    let pitch : c.index-as_slice-i.result ≡ get_or c.args.ex.now.cantus (c.args.i / 8) c.index-as_slice-i.result = rw
    c.as_slice.ensures at c.index-as_slice-i.is in
    let one = cantus_cells-one c.args.ex.now c.args.i c.index-as_slice-i.result (omega arith) pitch in
    c.push.ensures.items ∙ ap (λ cells. cells ++ c.cantus_cell_of.result ∷ []) c.new-cells.ensures
    ∙ ap (λ cell. cell ∷ []) c.cantus_cell_of.ensures ∙ sym one
    ∙ sym (cells_at-cantus c.args.ex.now c.args.i c.args.v c.if-v-ex.false)
