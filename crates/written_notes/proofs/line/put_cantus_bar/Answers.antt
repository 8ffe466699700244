use Rattle.fux_grid.specs.Exercises.{cantus_cell}
use Rattle.written_notes.proofs.Steps.{mapped-more}
use Rattle.written_notes.proofs.line.put_cantus_bar.Goals as goal

pub loop-slot-preserved : goal.loop-slot-preserved
loop-slot-preserved c =
    mapped-more (λ slot. cantus_cell slot c.args.pitch) c.loop-slot.slot c.args.line.now.items c.loop-slot.line.items
    c.push.new.self.items _ c.loop-slot.invariant c.in_ok-push.ensures.items c.cantus_cell.ensures
