use Rattle.std.proofs.Common.{◌++◌, string_bytes}
use Rattle.std.specs.List.{flat_map, range_with_len}
use Rattle.written_notes.proofs.Steps.{part-made}
use Rattle.written_notes.specs.Titles.{voice_species}
use Rattle.written_notes.proofs.titles.put_mixed_species.Goals as goal

pub loop-v-preserved : goal.loop-v-preserved
loop-v-preserved c =
    let ex = c.args.ex.now in
    part-made (voice_species ex) c.loop-v.v ex.voices (string_bytes c.loop-v.out)
    (string_bytes c.put_voice_species.new.out)
    (string_bytes c.args.out.now ++ flat_map (voice_species ex) (range_with_len 0 ex.voices))
    c.loop-v-test.true c.in_ok-put_voice_species.ensures c.loop-v.invariant
