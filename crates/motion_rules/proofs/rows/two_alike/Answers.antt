use Rattle.motion_rules.proofs.WayLemmas.{told_by_headings}
use Rattle.motion_rules.proofs.rows.two_alike.Goals as goal

pub returns-clause-value : goal.returns-clause-value
returns-clause-value c =
    told_by_headings c.args.before.now c.args.now.now 0 1 (λ b. b) _ _ _ c.heading_of.ensures c.heading_of-2.ensures
    c.alike.ensures.value
