use Rattle.std.proofs.Common.{◌≡◌, true, take}
use Rattle.chain_sums.specs.Still.{all_hold}
use Rattle.cert_check.proofs.menus.all_cells_hold.Given as goal

abbrev pub invariant-loop-cell : goal.invariant-loop-cell
invariant-loop-cell l = all_hold (take l.cell-index l.column) ≡ true
