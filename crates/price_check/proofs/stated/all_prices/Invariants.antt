use Rattle.std.proofs.Common.{◌≡◌, ◌≤◌, ◌*◌, length, map}
use Rattle.price_check.specs.PriceLines.{line_of}
use Rattle.std.specs.Prelude.{◌/◌, ◌%◌, vec_capacity}
use Rattle.std.specs.List.{range_with_len}
use Rattle.price_check.specs.Stated.{prices_at}
use Rattle.price_check.proofs.stated.all_prices.Given as goal

abbrev pub invariant-loop-k : goal.invariant-loop-k
invariant-loop-k l = record {
  items : l.all.items ≡ map (λ k. prices_at (map line_of l.lines) (k / 4) (k % 4)) (range_with_len 0 l.k);
  count : length l.all.items ≡ l.k;
  room : 4 * l.count ≤ vec_capacity l.all;
}
