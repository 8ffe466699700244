use Rattle.std.proofs.Common.{◌∙◌}
use Rattle.fux_judge.specs.Links.{behind_of, given}
use Rattle.fux_judge.specs.Rules.{rule_at}
use Rattle.fux_judge.proofs.LinkLemmas.{broken_at, heard_behind, newest_behind}
use Rattle.fux_judge.proofs.link.is_broken.Goals as goal

pub returns : goal.returns
unfolding rule_at
returns c =
    c.breaks_between.ensures c.requires.rule (behind_of (given c.args.link.now.prev))
    (newest_behind c.args.link.now c.requires.link)
    (heard_behind c.args.link.now c.requires.link c.latest_of_column.result.pitches c.latest_of_column.ensures)
    ∙ broken_at c.args.rule c.args.voices.bits c.args.link.now c.requires.rule
