use Rattle.std.proofs.Common.{ap, sym, ◌∙◌, arith}
use Rattle.rhythm_cadence.specs.BarCells.{bar_behind}
use Rattle.rhythm_cadence.specs.Patterns.{same_cells}
use Rattle.rhythm_cadence.proofs.PatternReadings.{bar_reading, first_differs, middle_differs, part_reading}
use Rattle.rhythm_cadence.proofs.patterns.repeats_bar.Goals as goal

pub returns-then-i-count : goal.returns-then-i-count
returns-then-i-count g c = λ s first shown from.
    let size = g.met.C.ColumnsAround.counted c.args.around.now c.args.ex.now s first shown in
    sym (part_reading s c.args.v c.args.i (omega (arith, size, c.count.ensures, c.if-i-count.true)))

pub returns-then-not-repeats_cell : goal.returns-then-not-repeats_cell
returns-then-not-repeats_cell g c = λ s first shown from.
    let size = g.met.C.ColumnsAround.counted c.args.around.now c.args.ex.now s first shown in
    sym (first_differs s c.args.v c.args.i c.requires.second (omega (arith, size, c.count.ensures, c.if-i-count.false))
    (sym (c.if-not-repeats_cell.ensures s first shown from)))

pub returns-then-not-repeats_cell-2 : goal.returns-then-not-repeats_cell-2
returns-then-not-repeats_cell-2 g c = λ s first shown from.
    let size = g.met.C.ColumnsAround.counted c.args.around.now c.args.ex.now s first shown in
    sym (middle_differs s c.args.v c.args.i c.requires.second (omega (arith, size, c.count.ensures, c.if-i-count.false))
    (sym (c.if-not-repeats_cell-2.ensures s first shown (omega (arith, from, c.requires.second)))))

pub returns : goal.returns
returns g c = λ s first shown from.
    let size = g.met.C.ColumnsAround.counted c.args.around.now c.args.ex.now s first shown in
    c.same_cells.ensures
    ∙ ap (λ cells. same_cells cells c.bar_behind-2.result) (c.bar_behind.ensures s first shown from)
    ∙ ap (λ cells. same_cells (bar_behind s c.args.v c.args.i) cells)
    (c.bar_behind-2.ensures s first shown (omega (arith, from)))
    ∙ sym (bar_reading s c.args.v c.args.i c.requires.second (omega (arith, size, c.count.ensures, c.if-i-count.false)))
