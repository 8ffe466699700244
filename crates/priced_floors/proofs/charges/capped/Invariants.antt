use Rattle.std.proofs.Common.{◌≡◌, ◌≤◌, ℕ, length, slice_index}
use Rattle.priced_floors.specs.declared.prices.TheConstants.{PITCHES}
use Rattle.priced_floors.proofs.charges.capped.Given as goal

abbrev pub invariant-loop-place : goal.invariant-loop-place
invariant-loop-place l = record {
  low : (place : ℕ) → slice_index l.strikes place ≤ l.most;
  whole : length l.strikes ≡ PITCHES;
}
