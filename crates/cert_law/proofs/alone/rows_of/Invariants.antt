use Rattle.std.proofs.Common.{◌≡◌, ◌<◌, ◌≤◌, ℕ, [], length, slice_index_or}
use Rattle.std.specs.Prelude.{vec_capacity}
use Rattle.cert_law.specs.Alone.{IsAloneRow}
use Rattle.cert_law.proofs.alone.rows_of.Given as goal

abbrev pub invariant-loop-i : goal.invariant-loop-i
invariant-loop-i l = record {
  each : length l.rows.items ≡ l.i;
  room : l.places ≤ vec_capacity l.rows;
  alone : (i : ℕ) → i < l.i → IsAloneRow l.ex i (slice_index_or l.rows.items i []);
}
