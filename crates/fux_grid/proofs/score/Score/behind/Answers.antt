use Rattle.std.proofs.Common.{sym, ◌∙◌, arith}
use Rattle.fux_grid.proofs.Histories.{get_or-earlier, get_or-earlier_past}
use Rattle.fux_grid.proofs.score.Score.behind.Goals as goal

pub returns-then-k-i : goal.returns-then-k-i
returns-then-k-i c = sym (get_or-earlier_past c.args.self.now.columns c.args.i c.args.k c.if-k-i.true c.requires)

pub returns : goal.returns
returns c =
    c.as_slice.ensures.value ∙ c.column.ensures.value
    ∙ sym (get_or-earlier c.args.self.now.columns c.args.i c.args.k (omega arith) c.requires)
