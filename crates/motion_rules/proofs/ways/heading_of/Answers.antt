use Rattle.std.proofs.Common.{ap, sym, ◌∙◌}
use Rattle.motion_rules.specs.Ways.{heading_by}
use Rattle.motion_rules.proofs.ways.heading_of.Goals as goal

pub returns-in-Some : goal.returns-in-Some
returns-in-Some c = c.heading_by.ensures ∙ ap heading_by (sym c.in-Some.is ∙ c.way_of.ensures)

pub returns-in-None : goal.returns-in-None
returns-in-None c = ap heading_by (sym c.in-None.is ∙ c.way_of.ensures)
