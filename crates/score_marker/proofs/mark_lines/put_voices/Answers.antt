use Rattle.std.proofs.Common.{◌∷◌, string_bytes, arith, rules}
use Rattle.std.specs.Fmt.{decimal}
use Rattle.score_marker.specs.Marks.{has_voice}
use Rattle.score_marker.proofs.VoiceText.{voice_written}
use Rattle.score_marker.proofs.mark_lines.put_voices.Goals as goal

pub loop-v-preserved : goal.loop-v-preserved
loop-v-preserved c =
    voice_written (has_voice c.args.set.bits) (λ v. 32 ∷ decimal v) (string_bytes c.loop-v.out)
    (string_bytes c.put_voice.new.out) _ c.loop-v.v 4 (omega arith) (search rules) c.loop-v.invariant
