use Rattle.std.proofs.Common.{◌≡◌, ◌≤◌, ◌+◌, ◌++◌, None, length, drop}
use Rattle.std.specs.Prelude.{vec_capacity}
use Rattle.price_check.specs.Stated.{summits_from}
use Rattle.price_check.proofs.stated.summits_between.Given as goal

abbrev pub invariant-loop-key : goal.invariant-loop-key
invariant-loop-key l = record {
  items : l.summits.items ++ summits_from l.charge l.high (drop l.key-index l.keys) ≡ summits_from l.charge None l.keys;
  count : length l.summits.items ≡ l.key-index;
  room : length l.keys + 1 ≤ vec_capacity l.summits;
}
