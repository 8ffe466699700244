use Rattle.written_notes.proofs.Steps.{part-made}
use Rattle.sheet_layout.specs.Spacing.{all_notes, voice_notes}
use Rattle.sheet_layout.proofs.spacing.all_notes.Goals as goal

pub loop-v-preserved : goal.loop-v-preserved
loop-v-preserved c =
    let ex = c.args.ex.now in
    let lines = c.args.lines.now in
    let bar = c.args.bar in
    part-made (voice_notes ex lines bar) c.loop-v.v ex.voices c.loop-v.all.items c.put_notes.new.all.items
    (all_notes ex lines bar) c.loop-v-test.true c.in_ok-put_notes.ensures c.loop-v.invariant
