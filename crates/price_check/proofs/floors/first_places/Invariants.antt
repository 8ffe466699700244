use Rattle.std.proofs.Common.{◌≡◌, ◌<◌, ℕ, [], None, Some, length, slice_get, slice_index_or}
use Rattle.price_check.specs.declared.floors.ListFloor.{ListFloor}
use Rattle.price_check.specs.Floors.{StandsIn}
use Rattle.price_check.proofs.floors.first_places.Given as goal

-- so far each place is where the empty path stands
abbrev pub invariant-loop-j : goal.invariant-loop-j
invariant-loop-j l = record {
  long : length l.places ≡ 8;
  are : (k : ℕ) → k < l.j → (floor : ListFloor) → slice_get l.floors k ≡ Some floor
      → StandsIn floor (slice_index_or l.places k None) [];
}
