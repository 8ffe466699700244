-- No menu so far is too wide.
use Rattle.std.proofs.Common.{ℕ, ◌<◌, ◌≤◌, length}
use Rattle.fux_grid.specs.Menus.{menu_of}
use Rattle.species_space.proofs.menus.first_too_wide.Given as goal

abbrev pub invariant-loop-i : goal.invariant-loop-i
invariant-loop-i l = (k : ℕ) → k < l.i → length (menu_of l.ex k) ≤ 8192
