use Rattle.std.proofs.Common.{ap, ◌∙◌}
use Rattle.rule_law.specs.Forms.{sets_of}
use Rattle.fux_judge.specs.Links.{given}
use Rattle.fux_judge.specs.Neighbors.{is_strict_for}
use Rattle.fux_judge.proofs.LinkLemmas.{for_all_sets}
use Rattle.fux_judge.proofs.link.breaks_rule.Goals as goal

pub returns : goal.returns
returns c =
    c.is_strictly_broken_for.ensures
    ∙ ap (λ sets. is_strict_for c.args.link.now c.args.rule sets)
    (c.sets_of.ensures.value ∙ ap (λ form. sets_of form c.args.link.now.exercise.now.voices) c.form_of.ensures)
    ∙ for_all_sets c.args.link.now.exercise.now c.args.link.now.place (given c.args.link.now.prev)
    c.args.link.now.next.now c.args.rule
