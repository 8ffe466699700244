-- What the filling of the table keeps.
use Rattle.std.proofs.Common.{◌≡◌, ℕ, length}
use Rattle.std.specs.Prelude.{nat_lt, slice_index, if◌then◌else◌}
use Rattle.cantus_space.specs.Rules.{starts_ahead}
use Rattle.cantus_space.proofs.ahead.starts_ahead.Given as goal

-- the places so far are filled, and in all others there is nothing
abbrev pub invariant-loop-count : goal.invariant-loop-count
invariant-loop-count l = record {
  size : length l.ahead ≡ 25;
  filled : (n : ℕ) → slice_index l.ahead n ≡ (if nat_lt n l.count then starts_ahead l.plan n else 0);
}
