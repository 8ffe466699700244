use Rattle.std.proofs.Common.{◌≡◌, ◌++◌, drop}
use Rattle.written_notes.specs.Lines.{cantus_line}
use Rattle.written_notes.proofs.line.cantus_line.Given as goal

-- the line so far, and that of the pitches that are left, are the line
abbrev pub invariant-loop-pitch : goal.invariant-loop-pitch
invariant-loop-pitch l = l.line.items ++ cantus_line (drop l.pitch-index l.cantus) ≡ cantus_line l.cantus
