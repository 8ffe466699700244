use Rattle.std.proofs.Common.{sym, ◌∙◌}
use Rattle.std.proofs.lemmas.Option.{IfSome_then}
use Rattle.fux_judge.proofs.ToldLemmas.{joint_is_least, voice_is_least}
use Rattle.fux_judge.proofs.told.told_rule.Goals as goal

pub returns-in-Some : goal.returns-in-Some
returns-in-Some c = λ p st on.
    voice_is_least c.args.ex.now p c.args.col.now.items on c.in-Some.rule (sym c.in-Some.is ∙ c.requires.line p st on)

pub returns-in-None : goal.returns-in-None
returns-in-None c =
    IfSome_then c.joint_rule.result c.joint_rule.ensures (λ rule found p st on.
    joint_is_least c.args.ex.now p c.args.col.now.items on rule (sym c.in-None.is ∙ c.requires.line p st on)
    (found p st on))
