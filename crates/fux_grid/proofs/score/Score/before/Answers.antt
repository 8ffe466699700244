use Rattle.std.proofs.Common.{ap, sym, ◌∙◌, arith}
use Rattle.fux_grid.specs.Columns.{newest_column, earlier}
use Rattle.fux_grid.proofs.Histories.{newest-earlier, earlier-none}
use Rattle.fux_grid.proofs.score.Score.before.Goals as goal

pub returns-then-i-eq0 : goal.returns-then-i-eq0
returns-then-i-eq0 c =
    sym (ap (λ i. newest_column (earlier c.args.self.now.columns i)) c.if-i-eq0.true
    ∙ ap newest_column (earlier-none c.args.self.now.columns))

pub returns : goal.returns
returns c =
    c.as_slice.ensures.value ∙ c.column.ensures.value
    ∙ sym (newest-earlier c.args.self.now.columns c.args.i (omega arith) (omega arith))
