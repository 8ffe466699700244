use Rattle.std.proofs.Common.{◌≡◌, ◌<◌, false, List, [], length, slice_index_or, subst, arith}
use Rattle.fux_grid.specs.declared.cell.Cell.{Cell}
use Rattle.fux_grid.specs.Cells.{cell_follows, cell_in}
use Rattle.fux_grid.specs.Columns.{ColumnFollows}
use Rattle.species_space.specs.Blocks.{columns_seen}
use Rattle.species_space.proofs.Passing.{passed_on}
use Rattle.species_space.proofs.blocks.MenuView.next_in_blocks.Goals as goal

pub behind_misfit-k-requires-clause-misses : goal.behind_misfit-k-requires-clause-misses
behind_misfit-k-requires-clause-misses c =
    let v = c.in-Some.v in
    let P : List Cell → Type 0 = λ col. cell_follows (cell_in c.args.before.now v) (cell_in col v) ≡ false in
    subst P c.column.ensures c.in-Some.ensures.misses

pub loop-k-preserved : goal.loop-k-preserved
loop-k-preserved c =
    let menu = columns_seen c.args.self.now in
    record {
      onward = omega (arith, c.loop-k.invariant.onward, c.behind_misfit-k.ensures.onward);
      passed =
          passed_on (λ j. j < length menu → ColumnFollows c.args.before.now (slice_index_or menu j []) → ⊥) c.args.from
          c.loop-k.k c.behind_misfit-k.result c.loop-k.invariant.passed c.behind_misfit-k.ensures.passed;
    }
