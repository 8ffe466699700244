use Rattle.std.proofs.Common.{◌++◌, codes, string_bytes}
use Rattle.score_marker.specs.Marks.{has_voice}
use Rattle.score_marker.proofs.VoiceText.{voice_written}
use Rattle.class_marker.specs.Words.{part_name}
use Rattle.class_marker.proofs.relaxed.put_names.Goals as goal

pub loop-v-preserved : goal.loop-v-preserved
loop-v-preserved c =
    voice_written (has_voice c.args.set.bits) (λ v. codes " " ++ part_name c.args.voices v)
    (string_bytes c.loop-v.out) (string_bytes c.put_name.new.out) _ c.loop-v.v 4
    c.loop-v-test.true c.in_ok-put_name.ensures c.loop-v.invariant
