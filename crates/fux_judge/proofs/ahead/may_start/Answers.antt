use Rattle.std.proofs.Common.{ap, sym, ◌∙◌}
use Rattle.fux_grid.specs.Cells.{cell_in}
use Rattle.fux_grid.specs.Menus.{menu_of}
use Rattle.fux_grid.proofs.MenuLemmas.{menu_of-contains}
use Rattle.rule_law.specs.Terms.{starts}
use Rattle.rule_law.proofs.MenuStarts.{any_from}
use Rattle.fux_judge.proofs.ahead.may_start.Goals as goal

pub returns-in-Start : goal.returns-in-Start
returns-in-Start c = λ col menu e.
    let ex = c.args.ex.now in
    sym (any_from (λ k. starts (cell_in k c.args.v)) (menu_of ex c.args.i) col
    ((menu_of-contains ex c.args.i col).1 menu) (ap starts (e ∙ c.in-Start.is)))

pub returns-in-Hold : goal.returns-in-Hold
returns-in-Hold c = λ col menu e. c.may_start_anew.ensures col menu (e ∙ c.in-Hold.is)
