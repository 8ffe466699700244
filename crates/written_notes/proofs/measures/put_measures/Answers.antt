use Rattle.std.proofs.Common.{◌++◌, string_bytes}
use Rattle.written_notes.proofs.Steps.{part-made}
use Rattle.written_notes.specs.Measures.{measure, measures}
use Rattle.written_notes.proofs.measures.put_measures.Goals as goal

pub loop-bar-preserved : goal.loop-bar-preserved
loop-bar-preserved c =
    let ex = c.args.ex.now in
    let marks = c.args.marks.now in
    let line = c.args.line.now in
    part-made (measure ex marks c.args.voice line) c.loop-bar.bar ex.bars (string_bytes c.loop-bar.out)
    (string_bytes c.put_measure.new.out) (string_bytes c.args.out.now ++ measures ex marks c.args.voice line)
    c.loop-bar-test.true c.in_ok-put_measure.ensures c.loop-bar.invariant
