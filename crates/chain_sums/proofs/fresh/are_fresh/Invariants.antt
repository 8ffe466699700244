use Rattle.std.proofs.Common.{◌<◌, ℕ, [], get_or}
use Rattle.chain_sums.specs.Fresh.{FollowsAll}
use Rattle.chain_sums.specs.Menus.{columns_of}
use Rattle.chain_sums.proofs.fresh.are_fresh.Given as goal

abbrev pub invariant-loop-k : goal.invariant-loop-k
invariant-loop-k l = (j : ℕ) → j < l.k → FollowsAll (get_or (columns_of l.menu) j [])
