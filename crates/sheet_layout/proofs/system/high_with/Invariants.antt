use Rattle.std.proofs.Common.{◌≡◌, drop}
use Rattle.sheet_layout.specs.Pages.{high_with}
use Rattle.sheet_layout.proofs.system.high_with.Given as goal

-- the highest so far and the cells that are left have the highest of all
abbrev pub invariant-loop-cell : goal.invariant-loop-cell
invariant-loop-cell l = high_with l.highest (drop l.cell-index l.line) ≡ high_with l.high l.line
