use Rattle.std.proofs.Common.{ap, ◌∙◌}
use Rattle.rule_law.specs.Forms.{sets_of}
use Rattle.fux_judge.specs.Moments.{is_strictly_broken_then}
use Rattle.fux_judge.proofs.SetLemmas.{strictly_for_all}
use Rattle.fux_judge.proofs.reading.is_strictly_broken_now.Goals as goal

pub returns : goal.returns
returns c = λ p after.
    c.is_strictly_broken_for.ensures p after
    ∙ ap (λ sets. is_strictly_broken_then sets c.args.rule p c.args.m.now)
    (c.sets_of.ensures.value ∙ ap (λ form. sets_of form c.args.m.now.exercise.now.voices) c.form_of.ensures)
    ∙ strictly_for_all c.args.rule p c.args.m.now
