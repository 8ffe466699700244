use Rattle.std.proofs.Common.{arith}
use Rattle.written_notes.specs.Bars.{cells_notes, notes_at}
use Rattle.written_notes.proofs.Steps.{all-made, part-made}
use Rattle.written_notes.proofs.bar.notes_of.Goals as goal

pub loop-slot-preserved : goal.loop-slot-preserved
loop-slot-preserved c = record {
  few = omega (arith, c.put_at.ensures.few, c.loop-slot.invariant.few);
  made = part-made (notes_at c.args.cells.now c.args.next) c.loop-slot.slot 8 c.loop-slot.notes.items c.put_at.new.notes.items
      (cells_notes c.args.cells.now c.args.next) c.loop-slot-test.true c.put_at.ensures.items c.loop-slot.invariant.made;
}

pub returns : goal.returns
returns c =
    all-made (notes_at c.args.cells.now c.args.next) c.loop-slot.slot 8 c.loop-slot.notes.items
    (cells_notes c.args.cells.now c.args.next) (omega (arith, c.loop-slot-test.false)) c.loop-slot.invariant.made
