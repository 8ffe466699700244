use Rattle.std.proofs.Common.{◌≡◌, ◌≤◌, ◌*◌, ◌^◌, ◌+◌, ◌-◌}
use Rattle.std.specs.List.{filter, range_with_len, sum_by}
use Rattle.rule_law.specs.Voices.{is_free}
use Rattle.priced_floors.specs.Fairness.{debt_of}
use Rattle.priced_floors.specs.Charges.{debt_in, prices_of, summit_of}
use Rattle.priced_floors.proofs.charges.debt_in.Given as goal

abbrev pub invariant-loop-v : goal.invariant-loop-v
invariant-loop-v l = record {
  value : l.sum + sum_by (λ v. debt_of (prices_of l.charges l.case v) (summit_of l.charges l.case v))
      (filter (is_free l.ex) (range_with_len l.v (l.ex.voices - l.v))) ≡ debt_in l.ex l.charges l.case;
  small : l.sum ≤ l.v * 2 ^ 52;
}
