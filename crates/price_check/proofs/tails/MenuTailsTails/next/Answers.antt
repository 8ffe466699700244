use Rattle.std.proofs.Common.{List, subst}
use Rattle.cert_law.specs.Known.{IsNextNumber}
use Rattle.fux_grid.specs.declared.cell.Cell.{Cell}
use Rattle.price_check.proofs.tails.MenuTailsTails.next.Goals as goal

pub returns : goal.returns
returns c =
    subst (λ (menu : List (List Cell)). IsNextNumber menu c.args.before.now c.args.from c.next_in.result)
    c.menu.ensures.columns c.next_in.ensures
