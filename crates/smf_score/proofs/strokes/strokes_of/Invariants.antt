use Rattle.std.proofs.Common.{◌≡◌, ◌++◌, Ok, All, length}
use Rattle.smf_bytes.specs.Events.{to_come}
use Rattle.smf_score.specs.Faults.{◌>>=◌}
use Rattle.smf_score.specs.Strokes.{IsStroke, strokes_in}
use Rattle.smf_score.proofs.strokes.strokes_of.Given as goal

-- the strokes so far and those to come are those of all events
abbrev pub invariant-loop-answer : goal.invariant-loop-answer
invariant-loop-answer l = record {
  read : (strokes_in (to_come l.events) >>= λ later. Ok (l.strokes.items ++ later))
      ≡ strokes_in (to_come l.initial.events);
  bounds : All IsStroke l.strokes.items;
}

abbrev pub decreases-loop-answer : goal.decreases-loop-answer
decreases-loop-answer l = length (to_come l.events)
