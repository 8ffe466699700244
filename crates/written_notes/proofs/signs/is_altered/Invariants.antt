use Rattle.std.proofs.Common.{◌≡◌, false, drop}
use Rattle.written_notes.specs.Signs.{heard_on}
use Rattle.written_notes.proofs.signs.is_altered.Given as goal

-- what is left decides as all of it does
abbrev pub invariant-loop-cell : goal.invariant-loop-cell
invariant-loop-cell l = heard_on l.degree l.altered (drop l.cell-index l.cells) ≡ heard_on l.degree false l.cells
