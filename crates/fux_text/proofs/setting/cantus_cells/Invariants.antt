use Rattle.std.proofs.Common.{◌≡◌, take}
use Rattle.fux_text.proofs.setting.cantus_cells.Given as goal
use Rattle.voice_lines.specs.Lines.{cantus_cells}

abbrev pub invariant-loop-pitch : goal.invariant-loop-pitch
invariant-loop-pitch l = l.cells.items ≡ cantus_cells (take l.pitch-index l.cantus)
