-- What the search for a pitch of the pool keeps.
use Rattle.std.proofs.Common.{◌≡◌, ℕ, ◌<◌, ◌≤◌, false}
use Rattle.cantus_space.specs.Cantus.{is_in_pool}
use Rattle.cantus_space.specs.Numbers.{numbered_pitch}
use Rattle.cantus_space.proofs.pools.next_of_pool.Given as goal

-- none so far is of the pool
abbrev pub invariant-loop-k : goal.invariant-loop-k
invariant-loop-k l = (n : ℕ) → l.from ≤ n → n < l.k → is_in_pool l.plan l.bar (numbered_pitch l.plan n) ≡ false
