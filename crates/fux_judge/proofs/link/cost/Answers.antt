use Rattle.std.proofs.Common.{◌∙◌}
use Rattle.fux_judge.specs.Links.{behind_of, given}
use Rattle.fux_judge.specs.Rules.{toll_at}
use Rattle.fux_judge.proofs.LinkLemmas.{cost_at, heard_behind, newest_behind}
use Rattle.fux_judge.proofs.link.cost.Goals as goal

pub returns-clause-value : goal.returns-clause-value
unfolding toll_at
returns-clause-value c =
    c.cost_between.ensures.value c.requires.toll (behind_of (given c.args.link.now.prev))
    (newest_behind c.args.link.now c.requires.link)
    (heard_behind c.args.link.now c.requires.link c.latest_of_column.result.pitches c.latest_of_column.ensures)
    ∙ cost_at c.args.toll c.args.link.now c.requires.toll
