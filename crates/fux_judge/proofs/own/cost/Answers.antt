use Rattle.std.proofs.Common.{[], if◌then◌else◌, refl, ap, sym, ◌∙◌}
use Rattle.fux_judge.specs.Rules.{costs, toll_at}
use Rattle.fux_judge.proofs.own.cost.Goals as goal

pub returns-clause-value : goal.returns-clause-value
unfolding toll_at
returns-clause-value c =
    c.cost_between.ensures.value c.requires.toll [] refl refl
    ∙ sym (ap (λ b. if b then costs c.args.toll c.args.ex.now c.args.i [] c.args.now.now [] else 0) c.requires.toll)
