-- The voices so far have the same cells at both places.
use Rattle.floor_tables.proofs.SameMenus.{HaveSameCells}
use Rattle.species_space.proofs.menus.has_same_menu.Given as goal

abbrev pub invariant-loop-v : goal.invariant-loop-v
invariant-loop-v l = HaveSameCells l.ex l.v l.i l.j
