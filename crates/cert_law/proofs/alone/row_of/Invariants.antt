use Rattle.std.proofs.Common.{◌≡◌, ◌<◌, ◌≤◌, ℕ, [], None, length, slice_index_or}
use Rattle.std.specs.Prelude.{vec_capacity}
use Rattle.fux_grid.specs.Menus.{menu_of}
use Rattle.fux_judge.specs.Told.{least_alone}
use Rattle.cert_law.proofs.alone.row_of.Given as goal

abbrev pub invariant-loop-k : goal.invariant-loop-k
invariant-loop-k l = record {
  each : length l.row.items ≡ l.k;
  room : l.width ≤ vec_capacity l.row;
  alone : (k : ℕ) → k < l.k
      → slice_index_or l.row.items k None ≡ least_alone l.ex l.i (slice_index_or (menu_of l.ex l.i) k []);
}
