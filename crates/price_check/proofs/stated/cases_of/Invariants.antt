use Rattle.std.proofs.Common.{◌≡◌, map, drop}
use Rattle.price_check.specs.PriceLines.{line_of}
use Rattle.price_check.specs.Stated.{cases_told, first_told}
use Rattle.price_check.proofs.stated.cases_of.Given as goal

abbrev pub invariant-loop-line : goal.invariant-loop-line
invariant-loop-line l =
    first_told cases_told (map line_of l.lines) ≡ first_told cases_told (map line_of (drop l.line-index l.lines))
