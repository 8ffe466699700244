use Rattle.std.proofs.Common.{◌≡◌, [], length, slice_index_or, ap, sym, ◌∙◌, arith}
use Rattle.fux_grid.specs.Cells.{cell_in}
use Rattle.species_space.specs.Blocks.{columns_seen}
use Rattle.species_space.proofs.Passing.{one_more, same_from_test}
use Rattle.species_space.proofs.blocks.MenuView.lowest_alike.Goals as goal

pub loop-v-preserved : goal.loop-v-preserved
loop-v-preserved c =
    let menu = columns_seen c.args.self.now in
    one_more (λ u. cell_in (slice_index_or menu c.args.j []) u ≡ cell_in (slice_index_or menu c.args.k []) u)
    c.loop-v.v c.loop-v.invariant
    (sym c.cell_at.ensures ∙ same_from_test c.cell_at.result c.cell_at-in-loop-v.result
    (sym c.same_cell.ensures ∙ c.if-not-same_cell.false) ∙ c.cell_at-in-loop-v.ensures)

pub returns-then-not-same_cell-clause-few : goal.returns-then-not-same_cell-clause-few
returns-then-not-same_cell-clause-few c = omega (arith, c.loop-v-test.true, c.min-v-end.ensures)

pub returns-then-not-same_cell-clause-alike : goal.returns-then-not-same_cell-clause-alike
returns-then-not-same_cell-clause-alike c = λ u lt there. c.loop-v.invariant u lt

pub returns-clause-alike : goal.returns-clause-alike
returns-clause-alike c = λ u lt there.
    c.loop-v.invariant u
    (omega (arith, lt, there, c.loop-v-test.false, c.min-v-end.ensures, c.len.ensures, ap length c.column_at.ensures))
