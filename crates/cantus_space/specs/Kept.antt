-- What a space keeps.
use Rattle.std.specs.Prelude.{◌≡◌, ℕ, ◌≤◌, List, slice_index}
use Rattle.cantus_space.specs.declared.plan.CantusPlan.{CantusPlan}
use Rattle.cantus_space.specs.Cantus.{IsPlan}
use Rattle.cantus_space.specs.Rules.{starts_ahead}

-- the plan is within the limits, and for each number of bars it is known what is ahead
pub record IsKept (plan : CantusPlan) (ahead : List ℕ) : Type 0 where
  pub valid : IsPlan plan
  pub counts : (count : ℕ) → count ≤ plan.bars → slice_index ahead count ≡ starts_ahead plan count
