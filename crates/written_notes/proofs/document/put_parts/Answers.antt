use Rattle.std.proofs.Common.{◌++◌, string_bytes}
use Rattle.written_notes.proofs.Downward.{part-made-down}
use Rattle.written_notes.specs.Documents.{part_of, parts}
use Rattle.written_notes.proofs.document.put_parts.Goals as goal

pub loop-voice-preserved : goal.loop-voice-preserved
loop-voice-preserved c =
    let ex = c.args.ex.now in
    let marks = c.args.marks.now in
    part-made-down (part_of ex marks) c.loop-voice.voice (string_bytes c.loop-voice.out) (string_bytes c.put_voice.new.out)
    (string_bytes c.args.out.now ++ parts ex marks) c.loop-voice-test.true c.in_ok-put_voice.ensures c.loop-voice.invariant
