use Rattle.std.proofs.Common.{◌≡◌}
use Rattle.fux_grid.specs.Grid.{items_of}
use Rattle.fux_grid.proofs.MenuLemmas.{first_choices}
use Rattle.fux_grid.proofs.menus.choices.Given as goal

abbrev pub invariant-loop-v : goal.invariant-loop-v
invariant-loop-v l = items_of l.choices.items ≡ first_choices l.ex l.i l.v
