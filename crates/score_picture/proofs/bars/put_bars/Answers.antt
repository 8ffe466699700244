use Rattle.std.proofs.Common.{◌++◌, string_bytes}
use Rattle.written_notes.proofs.Steps.{part-made}
use Rattle.score_picture.specs.Pictures.{bar_at, bars}
use Rattle.score_picture.proofs.bars.put_bars.Goals as goal

pub loop-bar-preserved : goal.loop-bar-preserved
loop-bar-preserved c =
    let ex = c.args.marked.now.ex.now in
    let marks = c.args.marked.now.marks.now in
    let lines = c.args.lines.now in
    let staves = c.args.staves.now in
    let places = c.args.places.now in
    part-made (bar_at ex marks lines staves places) c.loop-bar.bar ex.bars (string_bytes c.loop-bar.out)
    (string_bytes c.put_bar.new.out) (string_bytes c.args.out.now ++ bars ex marks lines staves places)
    c.loop-bar-test.true c.in_ok-put_bar.ensures c.loop-bar.invariant
