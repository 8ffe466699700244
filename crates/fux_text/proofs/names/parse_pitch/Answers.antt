use Rattle.fux_pitch.specs.Names.{name_of}
use Rattle.fux_text.specs.Names.{pitch_named, pitches}
use Rattle.fux_text.proofs.Named.{by_name, all_pitches}
use Rattle.fux_text.proofs.names.parse_pitch.Goals as goal

pub returns : goal.returns
unfolding pitch_named
returns c = by_name name_of pitches c.args.word.now c.parse_pitch.result all_pitches c.parse_pitch.ensures.named
    c.parse_pitch.ensures.every
