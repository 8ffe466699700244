use Rattle.std.proofs.Common.{◌≡◌, ◌<◌, ℕ, length, map, get_or}
use Rattle.price_check.specs.PriceLines.{line_of}
use Rattle.price_check.specs.Stated.{price_at}
use Rattle.priced_floors.specs.declared.prices.TheConstants.{PITCHES}
use Rattle.price_check.proofs.stated.prices_at.Given as goal

abbrev pub invariant-loop-place : goal.invariant-loop-place
invariant-loop-place l = record {
  long : length l.strikes ≡ PITCHES;
  are : (k : ℕ) → k < l.place → get_or l.strikes k 0 ≡ price_at (map line_of l.lines) l.case l.voice k;
}
