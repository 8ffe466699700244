use Rattle.std.proofs.Common.{◌≡◌, ◌++◌, Ok, All, length}
use Rattle.smf_bytes.specs.Events.{to_come}
use Rattle.smf_score.specs.Faults.{◌>>=◌}
use Rattle.smf_score.specs.Strokes.{IsStroke, strokes_in}
use Rattle.smf_score.specs.Meters.{signatures_in}
use Rattle.smf_score.proofs.joining.heard_of.Given as goal

-- what was read so far and what is to come is what all events are
abbrev pub invariant-loop-answer : goal.invariant-loop-answer
invariant-loop-answer l = record {
  read : (strokes_in (to_come l.events) >>= λ later. Ok (l.strokes.items ++ later))
      ≡ strokes_in (to_come l.initial.events);
  signatures : l.signatures.items ++ signatures_in (to_come l.events) ≡ signatures_in (to_come l.initial.events);
  bounds : All IsStroke l.strokes.items;
}

abbrev pub decreases-loop-answer : goal.decreases-loop-answer
decreases-loop-answer l = length (to_come l.events)
