use Rattle.std.proofs.Common.{◌≡◌, ℕ, ◌<◌, [], false, slice_index_or}
use Rattle.fux_grid.specs.Menus.{IsInMenu}
use Rattle.fux_judge.specs.Lawful.{breaks_strictly}
use Rattle.cert_check.proofs.head.is_lawful.Given as goal

abbrev pub invariant-loop-i : goal.invariant-loop-i
invariant-loop-i l = record {
  menus : (j : ℕ) → j < l.i → IsInMenu l.ex j (slice_index_or l.score.columns j []);
  unbroken : (j : ℕ) → j < l.i → breaks_strictly l.ex l.score.columns j ≡ false;
}
