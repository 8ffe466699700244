use Rattle.std.proofs.Common.{◌++◌, string_bytes}
use Rattle.written_notes.proofs.Steps.{part-made}
use Rattle.score_picture.specs.Pictures.{voice_number, voice_numbers}
use Rattle.score_picture.proofs.foot.put_voices.Goals as goal

pub loop-v-preserved : goal.loop-v-preserved
loop-v-preserved c =
    let bits = c.args.set.bits in
    part-made (voice_number bits) c.loop-v.v 4 (string_bytes c.loop-v.out) (string_bytes c.put_voice.new.out)
    (string_bytes c.args.out.now ++ voice_numbers bits) c.loop-v-test.true c.in_ok-put_voice.ensures c.loop-v.invariant
