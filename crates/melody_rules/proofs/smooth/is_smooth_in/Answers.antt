use Rattle.fux_grid.specs.Columns.{line}
use Rattle.melody_rules.proofs.VoiceLemmas.{notes_at}
use Rattle.melody_rules.proofs.smooth.is_smooth_in.Goals as goal

pub returns : goal.returns
returns c = λ behind are.
    c.is_smooth_at.ensures (line c.args.v behind)
    (notes_at behind c.args.voices.now c.args.v c.index-voices-v.result are c.told-voices c.requires)
