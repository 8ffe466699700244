use Rattle.std.proofs.Common.{◌≡◌, ◌≤◌, ◌+◌, map, option_map, drop}
use Rattle.price_check.specs.PriceLines.{line_of}
use Rattle.price_check.specs.Stated.{first_above, prices_in}
use Rattle.price_check.proofs.stated.first_high.Given as goal

abbrev pub invariant-loop-line : goal.invariant-loop-line
invariant-loop-line l = record {
  same : first_above l.most (prices_in (map line_of l.lines))
      ≡ option_map (λ n. n + l.number) (first_above l.most (prices_in (map line_of (drop l.line-index l.lines))));
  few : l.number ≤ l.line-index;
}
