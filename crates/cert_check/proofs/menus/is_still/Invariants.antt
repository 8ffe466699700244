use Rattle.std.proofs.Common.{◌≡◌, ◌<◌, ℕ, true, [], get_or}
use Rattle.fux_grid.specs.Grid.{items_of}
use Rattle.chain_sums.specs.Still.{all_hold}
use Rattle.cert_check.proofs.menus.is_still.Given as goal

abbrev pub invariant-loop-k : goal.invariant-loop-k
invariant-loop-k l = (j : ℕ) → j < l.k → all_hold (get_or (items_of l.columns) j []) ≡ true
