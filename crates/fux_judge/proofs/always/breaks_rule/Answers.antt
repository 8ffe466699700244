use Rattle.std.proofs.Common.{◌&&◌, None, ap, ◌∙◌}
use Rattle.std.specs.List.{list_any}
use Rattle.rule_law.specs.Forms.{sets_of}
use Rattle.fux_judge.specs.Links.{breaks_between}
use Rattle.fux_judge.specs.Penalties.{is_strict_at}
use Rattle.fux_judge.proofs.LinkLemmas.{for_all_sets}
use Rattle.fux_judge.proofs.always.breaks_rule.Goals as goal

pub returns : goal.returns
returns c =
    let ex = c.args.ex.now in
    c.breaks_for_some.ensures
    ∙ ap (list_any (λ v. breaks_between ex c.args.i None c.args.now.now c.args.rule v
    && is_strict_at c.args.rule ex v c.args.i))
    (c.sets_of.ensures.value ∙ ap (λ form. sets_of form ex.voices) c.form_of.ensures)
    ∙ for_all_sets ex c.args.i None c.args.now.now c.args.rule
