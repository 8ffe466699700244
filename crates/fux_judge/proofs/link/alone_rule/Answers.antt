use Rattle.std.proofs.Common.{ap, ◌∙◌}
use Rattle.std.specs.Prelude.{None}
use Rattle.std.specs.List.{find}
use Rattle.fux_judge.specs.Neighbors.{breaks_strictly_at_link}
use Rattle.fux_judge.specs.Told.{alone_rules, least_alone}
use Rattle.fux_judge.proofs.LinkLemmas.{link_finds}
use Rattle.fux_judge.proofs.link.alone_rule.Goals as goal

pub returns : goal.returns
unfolding least_alone
returns c =
    let l = c.link_between-link.result in
    let is = c.link_between-link.ensures in
    c.first_of.ensures
    ∙ ap (find (breaks_strictly_at_link l)) c.decided_alone.ensures.value
    ∙ link_finds l c.args.ex c.args.i None c.args.col.now.items is.exercise is.number is.prev is.next alone_rules
