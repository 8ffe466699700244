use Rattle.cert_check.specs.Menus.{HaveMenus}
use Rattle.cert_check.proofs.menus.Menus.of.Given as goal

abbrev pub invariant-loop-i : goal.invariant-loop-i
invariant-loop-i l = HaveMenus l.ex l.i l.menus
