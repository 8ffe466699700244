use Rattle.std.proofs.Common.{sym, ◌∙◌, arith}
use Rattle.fux_grid.proofs.Histories.{get_or-earlier, get_or-earlier_past}
use Rattle.rule_law.proofs.around.cells_behind.Goals as goal

pub returns-then-k-i : goal.returns-then-k-i
returns-then-k-i g c = λ s first shown from within.
    sym (get_or-earlier_past s c.args.i c.args.k c.if-k-i.true within)

pub returns : goal.returns
returns g c = λ s first shown from within.
    c.cells.ensures s first shown from ∙ sym (get_or-earlier s c.args.i c.args.k (omega (arith, c.if-k-i.false)) within)
