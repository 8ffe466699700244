use Rattle.std.proofs.Common.{◌≡◌, ◌≤◌, ◌<◌, ℕ, true, false, length}
use Rattle.std.specs.Prelude.{vec_capacity}
use Rattle.std.specs.List.{list_any}
use Rattle.priced_floors.specs.Charges.{AreTopsWithin, has_key, is_below}
use Rattle.priced_floors.specs.declared.charges.TheConstants.{CASES}
use Rattle.priced_floors.proofs.charges.cases_between.Given as goal

abbrev pub invariant-loop-key : goal.invariant-loop-key
invariant-loop-key l = record {
  above : (key : ℕ) → is_below l.high key ≡ false → list_any (has_key key) l.summits.items ≡ true;
  low : AreTopsWithin l.charge l.summits.items;
  few : length l.summits.items < CASES;
  room : CASES ≤ vec_capacity l.summits;
}
