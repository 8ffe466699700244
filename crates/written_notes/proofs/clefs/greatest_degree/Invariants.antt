use Rattle.std.proofs.Common.{◌≡◌, max, drop}
use Rattle.written_notes.specs.Clefs.{greatest_degree}
use Rattle.written_notes.proofs.clefs.greatest_degree.Given as goal

-- the greater of the greatest degree so far, and of that of what is left
abbrev pub invariant-loop-pitch : goal.invariant-loop-pitch
invariant-loop-pitch l = max l.greatest (greatest_degree (drop l.pitch-index l.pitches)) ≡ greatest_degree l.pitches
