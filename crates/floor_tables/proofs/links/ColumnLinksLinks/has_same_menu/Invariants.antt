use Rattle.floor_tables.proofs.SameMenus.{HaveSameCells}
use Rattle.floor_tables.proofs.links.ColumnLinksLinks.has_same_menu.Given as goal

abbrev pub invariant-loop-v : goal.invariant-loop-v
invariant-loop-v l = HaveSameCells l.self.exercise l.v l.i l.j
