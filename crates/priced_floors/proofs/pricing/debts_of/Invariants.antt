use Rattle.std.proofs.Common.{◌≡◌, ◌≤◌, ◌<◌, ℕ, length, slice_index_or}
use Rattle.std.specs.Prelude.{vec_capacity}
use Rattle.priced_floors.specs.Charges.{debt_in}
use Rattle.priced_floors.proofs.pricing.debts_of.Given as goal

abbrev pub invariant-loop-case : goal.invariant-loop-case
invariant-loop-case l = record {
  known : (case : ℕ) → case < length l.debts.items → slice_index_or l.debts.items case 0 ≡ debt_in l.ex l.charges case;
  count : length l.debts.items ≡ l.case;
  room : l.count ≤ vec_capacity l.debts;
}
