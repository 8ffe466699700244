use Rattle.std.proofs.Common.{◌≡◌, drop}
use Rattle.written_notes.specs.Clefs.{least_degree, least_with}
use Rattle.written_notes.proofs.clefs.least_degree.Given as goal

-- the lowest so far and the pitches that are left have the lowest of all
abbrev pub invariant-loop-pitch : goal.invariant-loop-pitch
invariant-loop-pitch l = least_with l.least (drop l.pitch-index l.pitches) ≡ least_degree l.pitches
