use Rattle.std.proofs.Common.{◌≡◌, ◌≤◌, ◌*◌, ◌^◌, ◌+◌, ◌-◌}
use Rattle.std.specs.List.{filter, range_with_len, sum_by}
use Rattle.fux_grid.specs.Cells.{cell_in}
use Rattle.rule_law.specs.Terms.{started_pitch}
use Rattle.rule_law.specs.Voices.{is_free}
use Rattle.priced_floors.specs.Charges.{column_charge, note_charge, prices_of, summit_of}
use Rattle.priced_floors.proofs.charges.column_charge.Given as goal

abbrev pub invariant-loop-v : goal.invariant-loop-v
invariant-loop-v l = record {
  value : l.sum + sum_by (λ v. note_charge (prices_of l.charges l.case v) (summit_of l.charges l.case v)
      (started_pitch (cell_in l.column.items v))) (filter (is_free l.ex) (range_with_len l.v (l.ex.voices - l.v)))
      ≡ column_charge l.ex l.charges l.case l.column.items;
  small : l.sum ≤ l.v * 2 ^ 21;
}
