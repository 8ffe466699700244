use Rattle.std.proofs.Common.{sym, ◌∙◌}
use Rattle.std.proofs.lemmas.Bool.{not-false, not-true}
use Rattle.fux_judge.proofs.ToldLemmas.{early_joint, late_joint, third_joint}
use Rattle.fux_judge.proofs.told.first_with.Goals as goal

pub returns-then-is_early : goal.returns-then-is_early
returns-then-is_early c = λ p after.
    sym (early_joint p c.args.m.now after c.args.least c.requires.least (sym c.is_early.ensures ∙ c.if-is_early.true))

pub returns-then-opens_well : goal.returns-then-opens_well
returns-then-opens_well c = λ p after.
    sym (late_joint p c.args.m.now after c.args.least c.requires.least
    (not-true _ (sym (c.opens_well.ensures p after) ∙ c.if-opens_well.true)))

pub returns : goal.returns
returns c = λ p after.
    sym (third_joint p c.args.m.now after c.args.least c.requires.least (sym c.is_early.ensures ∙ c.if-is_early.false)
    (not-false _ (sym (c.opens_well.ensures p after) ∙ c.if-opens_well.false)))
