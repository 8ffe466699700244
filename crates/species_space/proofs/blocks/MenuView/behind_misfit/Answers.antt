use Rattle.std.proofs.Common.{◌≡◌, ◌<◌, false, List, [], length, slice_index_or, ap, sym, ◌∙◌, arith}
use Rattle.fux_grid.specs.declared.cell.Cell.{Cell}
use Rattle.fux_grid.specs.Cells.{cell_follows, cell_in}
use Rattle.fux_grid.specs.Columns.{ColumnFollows}
use Rattle.species_space.specs.Blocks.{columns_seen}
use Rattle.species_space.proofs.Passing.{passed_on, strays_in_block}
use Rattle.species_space.proofs.blocks.MenuView.behind_misfit.Goals as goal

pub loop-end-init : goal.loop-end-init
loop-end-init c =
    let menu = columns_seen c.args.self.now in
    record {
      onward = c.block_end-end.ensures.onward;
      passed = λ j le lt within.
          strays_in_block menu c.args.before.now c.args.v _ j c.args.k (c.requires.cut.kept c.args.v c.requires.voice)
          within c.requires.within (c.block_end-end.ensures.one_block j le lt) c.requires.misses;
    }

pub loop-end-preserved : goal.loop-end-preserved
loop-end-preserved c =
    let menu = columns_seen c.args.self.now in
    let before = c.args.before.now in
    let v = c.args.v in
    let end = c.loop-end.end in
    let ends = c.block_end-end-in-loop-end.ensures in
    let here : end < length menu = omega (arith, c.len.ensures, c.loop-end-test.true) in
    let its : cell_in (slice_index_or menu end []) v ≡ c.cell_of.result =
    ap (λ (d : List Cell). cell_in d v) (sym c.column.ensures ∙ sym c.as_slice.ensures.value) ∙ sym c.cell_of.ensures in
    let stray : cell_follows (cell_in before v) (cell_in (slice_index_or menu end []) v) ≡ false =
    ap (cell_follows (cell_in before v)) its ∙ ap (λ d. cell_follows d c.cell_of.result) (sym c.cell_of-cell.ensures)
    ∙ sym c.follows.ensures ∙ c.if-follows.false in
    record {
      onward = omega (arith, c.loop-end.invariant.onward, ends.onward);
      passed =
          passed_on (λ j. j < length menu → ColumnFollows before (slice_index_or menu j []) → ⊥) c.args.k end
          c.block_end-end-in-loop-end.result c.loop-end.invariant.passed
          (λ j le lt within. strays_in_block menu before v _ j end (c.requires.cut.kept v c.requires.voice) within here
          (ends.one_block j le lt) stray);
    }

pub returns-then-follows-clause-passed : goal.returns-then-follows-clause-passed
returns-then-follows-clause-passed c = c.loop-end.invariant.passed

pub returns-clause-passed : goal.returns-clause-passed
returns-clause-passed c = c.loop-end.invariant.passed
