use Rattle.std.proofs.Common.{◌≡◌, ◌≤◌, ℕ, length, slice_index, vec_capacity}
use Rattle.priced_floors.specs.Charges.{prices_in}
use Rattle.priced_floors.specs.declared.charges.TheConstants.{SCALE}
use Rattle.priced_floors.proofs.charges.all_capped.Given as goal

abbrev pub invariant-loop-its : goal.invariant-loop-its
invariant-loop-its l = record {
  scale : (v : ℕ) → (prices_in SCALE l.all.items v).scale ≡ SCALE;
  low : (v place : ℕ) → slice_index (prices_in SCALE l.all.items v).strikes place ≤ l.most;
  count : length l.all.items ≡ l.its-index;
  room : length l.prices ≤ vec_capacity l.all;
}
