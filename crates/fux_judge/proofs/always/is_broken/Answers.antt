use Rattle.std.proofs.Common.{[], ◌&&◌, refl, ap, sym, ◌∙◌}
use Rattle.fux_judge.specs.Rules.{breaks, rule_at}
use Rattle.fux_judge.proofs.always.is_broken.Goals as goal

pub returns : goal.returns
unfolding rule_at
returns c =
    c.breaks_between.ensures c.requires.rule [] refl refl
    ∙ sym (ap (λ b. b && breaks c.args.rule c.args.ex.now c.args.voices.bits c.args.i [] c.args.now.now [])
    c.requires.rule)
