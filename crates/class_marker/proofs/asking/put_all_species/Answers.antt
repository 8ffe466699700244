use Rattle.std.proofs.Common.{string_bytes}
use Rattle.rule_law.specs.Voices.{is_free}
use Rattle.score_marker.proofs.VoiceText.{voice_written}
use Rattle.class_marker.specs.Asked.{species_sentence}
use Rattle.class_marker.proofs.asking.put_all_species.Goals as goal

pub loop-v-preserved : goal.loop-v-preserved
loop-v-preserved c =
    voice_written (is_free c.args.ex.now) (species_sentence c.args.ex.now)
    (string_bytes c.loop-v.out) (string_bytes c.put_if_free.new.out) _
    c.loop-v.v c.args.ex.now.voices c.loop-v-test.true c.in_ok-put_if_free.ensures c.loop-v.invariant
