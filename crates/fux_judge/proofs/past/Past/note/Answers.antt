use Rattle.fux_judge.proofs.StateLemmas.{parts_of}
use Rattle.fux_judge.proofs.past.Past.note.Goals as goal

pub returns : goal.returns
returns c = λ p long is.
    let parts = c.note.ensures p long (parts_of is) in
    record { melody = parts.0; dissonance = parts.1.1.0; rhythm = parts.1.1.1.0 }
