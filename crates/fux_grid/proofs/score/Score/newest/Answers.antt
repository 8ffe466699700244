use Rattle.std.proofs.Common.{ap, ◌∙◌, arith}
use Rattle.fux_grid.specs.Columns.{newest_column}
use Rattle.fux_grid.proofs.Histories.{earlier-all}
use Rattle.fux_grid.proofs.score.Score.newest.Goals as goal

pub returns : goal.returns
returns c = c.before-2.ensures ∙ ap newest_column (earlier-all c.args.self.now.columns c.len.result (omega arith))
