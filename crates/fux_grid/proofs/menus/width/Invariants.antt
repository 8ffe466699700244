use Rattle.std.proofs.Common.{◌≡◌, ◌^◌, ◌≤◌, length}
use Rattle.fux_grid.specs.Menus.{combinations}
use Rattle.fux_grid.proofs.MenuLemmas.{first_choices}
use Rattle.fux_grid.proofs.menus.width.Given as goal

abbrev pub invariant-loop-v : goal.invariant-loop-v
invariant-loop-v l = record {
  product : l.width ≡ length (combinations (first_choices l.ex l.i l.v));
  bound : l.width ≤ 147 ^ l.v;
}
