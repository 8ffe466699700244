use Rattle.std.proofs.Common.{rules}
use Rattle.rule_law.specs.Voices.{voice_pairs}
use Rattle.rule_law.proofs.sets.voice_pairs.Goals as goal

pub returns-clause-value : goal.returns-clause-value
unfolding voice_pairs
returns-clause-value c = search rules
