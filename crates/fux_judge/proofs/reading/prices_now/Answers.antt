use Rattle.std.proofs.Common.{ap, ◌∙◌}
use Rattle.rule_law.specs.Forms.{sets_of}
use Rattle.fux_judge.specs.Moments.{prices_then}
use Rattle.fux_judge.proofs.SetLemmas.{prices_for_all}
use Rattle.fux_judge.proofs.reading.prices_now.Goals as goal

pub returns-clause-value : goal.returns-clause-value
returns-clause-value c = λ p after.
    c.prices_for.ensures.value p after ∙ ap (λ sets. prices_then sets c.args.rule p c.args.m.now)
    (c.sets_of.ensures.value ∙ ap (λ form. sets_of form c.args.m.now.exercise.now.voices) c.form_of.ensures)
    ∙ prices_for_all c.args.rule p c.args.m.now
