use Rattle.std.proofs.Common.{◌≡◌, ◌*◌, ◌/◌, [], slice_index_or, sym, ◌∙◌, arith}
use Rattle.std.proofs.lemmas.List.{length-map}
use Rattle.fux_grid.specs.Cells.{cell_in}
use Rattle.fux_grid.specs.Grid.{items_of}
use Rattle.species_space.proofs.Passing.{one_more, same_from_test}
use Rattle.species_space.proofs.blocks.keeps_cell.Goals as goal

pub loop-k-preserved : goal.loop-k-preserved
loop-k-preserved c =
    let menu = items_of c.args.columns.now in
    let v = c.args.v in
    let size = c.args.length in
    one_more (λ j. cell_in (slice_index_or menu j []) v ≡ cell_in (slice_index_or menu (j / size * size) []) v)
    c.loop-k.k c.loop-k.invariant
    (sym c.cell_at.ensures ∙ same_from_test c.cell_at.result c.cell_at-in-loop-k.result
    (sym c.same_cell.ensures ∙ c.if-not-same_cell.false) ∙ c.cell_at-in-loop-k.ensures)

pub returns : goal.returns
returns c = λ t k lt. c.loop-k.invariant k
    (omega (arith, lt, length-map c.args.columns.now (λ col. col.items), c.loop-k-test.false))
