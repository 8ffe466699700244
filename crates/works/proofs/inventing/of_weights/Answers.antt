use Rattle.std.proofs.Common.{inl}
use Rattle.works.proofs.inventing.of_weights.Goals as goal

pub returns : goal.returns
returns c = λ sheets weights.
    let priced = c.in_ok-priced.priced in
    let read = c.in_ok-priced.ensures sheets weights in
    inl record {
      sheet = priced.sheet;
      said = read.0;
      made = rw read.1 c.in_ok-invent.ensures;
    }
