use Rattle.std.proofs.Common.{[]}
use Rattle.written_notes.proofs.Steps.{mapped-more}
use Rattle.written_notes.specs.Lines.{line_of}
use Rattle.score_picture.proofs.pages.lines_of.Goals as goal

pub loop-voice-preserved : goal.loop-voice-preserved
loop-voice-preserved c =
    mapped-more (line_of c.args.ex.now) c.loop-voice.voice [] c.loop-voice.lines.items c.push.new.self.items _
    c.loop-voice.invariant c.in_ok-push.ensures.items c.in_ok-line.ensures
