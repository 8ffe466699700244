use Rattle.std.proofs.Common.{◌≡◌, take}
use Rattle.voice_lines.specs.Lines.{cantus_cells}
use Rattle.voice_lines.proofs.cantus_cells.Given as goal

-- the cells of the pitches so far
abbrev pub invariant-loop-pitch : goal.invariant-loop-pitch
invariant-loop-pitch l = l.cells.items ≡ cantus_cells (take l.pitch-index l.cantus)
