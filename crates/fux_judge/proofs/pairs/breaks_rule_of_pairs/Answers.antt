use Rattle.std.proofs.Common.{◌∙◌}
use Rattle.fux_judge.specs.Links.{given}
use Rattle.fux_judge.proofs.LinkLemmas.{for_each_pair}
use Rattle.fux_judge.proofs.pairs.breaks_rule_of_pairs.Goals as goal

pub returns : goal.returns
returns c =
    c.is_broken_for_a_pair.ensures
    ∙ for_each_pair c.args.link.now.exercise.now c.args.link.now.place (given c.args.link.now.prev)
    c.args.link.now.next.now c.args.rule c.requires.form
