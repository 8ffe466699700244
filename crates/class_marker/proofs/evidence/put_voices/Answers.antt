use Rattle.std.proofs.Common.{string_bytes, arith}
use Rattle.score_marker.specs.Marks.{has_voice}
use Rattle.score_marker.proofs.VoiceText.{voice_written}
use Rattle.class_marker.specs.Evidence.{voice_line}
use Rattle.class_marker.proofs.evidence.put_voices.Goals as goal

pub loop-v-preserved : goal.loop-v-preserved
loop-v-preserved c =
    voice_written (has_voice c.args.set.bits)
    (voice_line c.args.ex.now c.args.rule c.args.score.now.columns c.args.i)
    (string_bytes c.loop-v.out) (string_bytes c.put_if_in.new.out) _ c.loop-v.v 4
    (omega arith) c.in_ok-put_if_in.ensures c.loop-v.invariant
