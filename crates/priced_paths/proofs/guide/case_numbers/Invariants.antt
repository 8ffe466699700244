use Rattle.std.specs.Prelude.{◌≡◌, ℕ, ◌<◌, ◌≤◌, length, vec_capacity}
use Rattle.priced_paths.specs.CaseGraphs.{case_of}
use Rattle.priced_paths.specs.Places.{AreNumbersOf, numbers_of}
use Rattle.priced_paths.proofs.guide.case_numbers.Given as goal

abbrev pub invariant-loop-case : goal.invariant-loop-case
invariant-loop-case g l = record {
  each : length l.numbers.items ≡ l.case;
  room : l.count ≤ vec_capacity l.numbers;
  numbers : (k : ℕ) → k < l.case → AreNumbersOf l.web (g.P.Tree.Space.height (g.P.Pricing.tree l.pricing))
      (case_of (g.P.Pricing.toll_at l.pricing) (g.P.Pricing.reaches_at l.pricing) (g.P.Pricing.rate_of l.pricing) k)
      (numbers_of l.numbers.items k);
}
