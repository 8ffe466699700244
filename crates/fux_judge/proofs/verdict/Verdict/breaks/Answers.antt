use Rattle.std.proofs.Common.{ap, ◌∙◌}
use Rattle.std.specs.List.{list_any}
use Rattle.rule_law.specs.Voices.{has_rule}
use Rattle.fux_judge.proofs.verdict.Verdict.breaks.Goals as goal

pub returns : goal.returns
returns c = c.any_of.ensures ∙ ap (list_any (has_rule c.args.self.now.broken.bits)) c.every_rule.ensures.value
