use Rattle.std.proofs.Common.{subst}
use Rattle.fux_grid.specs.declared.exercise.Exercise.{Exercise}
use Rattle.works.specs.Charged.{Weighs}
use Rattle.works.specs.Works.{Answers}
use Rattle.works.proofs.charging.weigh_mixed.Goals as goal

pub returns : goal.returns
returns g c =
    subst (λ (rules : Exercise). Answers (Weighs c.args.against c.args.sheet.now c.args.m.now.ex.now rules) c.weigh.result)
    c.mixed_as-rules.ensures.value c.weigh.ensures
