use Rattle.std.proofs.Common.{◌≡◌, ℕ, Option, ap, ◌∙◌, subst}
use Rattle.std.specs.List.{find}
use Rattle.std.specs.Prelude.{IfSome}
use Rattle.fux_judge.specs.Moments.{is_strictly_broken_then}
use Rattle.fux_judge.specs.Rules.{all_sets}
use Rattle.fux_judge.specs.Told.{least_alone}
use Rattle.fux_judge.proofs.told.first_jointly.Goals as goal

pub first_with-requires-clause-least : goal.first_with-requires-clause-least
first_with-requires-clause-least c =
    let m = c.args.m.now in
    subst (λ (o : Option (Option ℕ)). IfSome o (λ l. l ≡ least_alone m.exercise.now m.state.now.newest.len m.column.now))
    c.in-Some.is c.requires.alone

pub returns-in-None : goal.returns-in-None
returns-in-None c = λ p after.
    c.first_broken.ensures p after
    ∙ ap (find (λ r. is_strictly_broken_then all_sets r p c.args.m.now)) c.told_jointly.ensures.value
