use Rattle.std.proofs.Common.{◌≡◌, drop}
use Rattle.sheet_layout.specs.Pages.{low_with}
use Rattle.sheet_layout.proofs.system.low_with.Given as goal

-- the lowest so far and the cells that are left have the lowest of all
abbrev pub invariant-loop-cell : goal.invariant-loop-cell
invariant-loop-cell l = low_with l.lowest (drop l.cell-index l.line) ≡ low_with l.low l.line
