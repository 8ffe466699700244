use Rattle.fux_judge.proofs.past.Past.none.Goals as goal

pub returns : goal.returns
returns c = λ ex.
    let parts = c.start.ensures ex in
    record { melody = parts.0; dissonance = parts.1.1.0; rhythm = parts.1.1.1.0 }
