use Rattle.std.proofs.Common.{◌++◌, length, ap, ◌∙◌, arith}
use Rattle.written_notes.specs.Bars.{bar_cells}
use Rattle.written_notes.specs.Sheets.{given_notes, part_notes, parts_notes}
use Rattle.written_notes.proofs.Steps.{all-made, part-made}
use Rattle.written_notes.proofs.sheet.given_notes.Goals as goal

pub loop-slot-init : goal.loop-slot-init
loop-slot-init c =
    let ex = c.args.ex.now in
    let v = c.args.v in
    let line = c.args.line.now in
    let bar = c.args.bar in record {
      few = omega (arith, ap length c.new-notes.ensures);
      made = ap (λ items. items ++ parts_notes ex v bar c.bar_cells-cells.result c.cell_of-next.result) c.new-notes.ensures
          ∙ ap (λ cells. parts_notes ex v bar cells c.cell_of-next.result) c.bar_cells-cells.ensures.value
          ∙ ap (parts_notes ex v bar (bar_cells line bar)) c.cell_of-next.ensures;
    }

pub loop-slot-preserved : goal.loop-slot-preserved
loop-slot-preserved c =
    let ex = c.args.ex.now in
    let v = c.args.v in
    let bar = c.args.bar in record {
      few = omega (arith, c.put_part.ensures.few, c.loop-slot.invariant.few);
      made = part-made (part_notes ex v bar c.bar_cells-cells.result c.cell_of-next.result) c.loop-slot.slot 8
          c.loop-slot.notes.items c.put_part.new.notes.items (given_notes ex v c.args.line.now bar) c.loop-slot-test.true
          c.put_part.ensures.items c.loop-slot.invariant.made;
    }

pub returns : goal.returns
returns c =
    let ex = c.args.ex.now in
    let v = c.args.v in
    let bar = c.args.bar in
    all-made (part_notes ex v bar c.bar_cells-cells.result c.cell_of-next.result) c.loop-slot.slot 8
    c.loop-slot.notes.items (given_notes ex v c.args.line.now bar) (omega (arith, c.loop-slot-test.false))
    c.loop-slot.invariant.made
