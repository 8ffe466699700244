use Rattle.std.proofs.Common.{◌∙◌}
use Rattle.cert_writer.proofs.Heads.{front_is_brief}
use Rattle.cert_writer.proofs.prices.certify_prices.Goals as goal

pub write_chosen-requires-clause-brief : goal.write_chosen-requires-clause-brief
write_chosen-requires-clause-brief g c κs within =
    let space = c.args.space.now in
    front_is_brief space.exercise space.sheet c.exercise-exercise.ensures.valid c.exercise-exercise.result.now c.args.best
    c.in_ok-head.head c.as_str-in-Some.result.now c.penalty_fits.ensures c.requires.holds c.exercise-exercise.ensures.value
    c.in_ok-head.ensures (c.as_str-in-Some.ensures.value ∙ c.in_ok-front.ensures)

pub write_least-requires-clause-brief : goal.write_least-requires-clause-brief
write_least-requires-clause-brief g c κs within =
    let space = c.args.space.now in
    front_is_brief space.exercise space.sheet c.exercise-exercise.ensures.valid c.exercise-exercise.result.now c.args.best
    c.in_ok-head.head c.as_str-in-None.result.now c.penalty_fits.ensures c.requires.holds c.exercise-exercise.ensures.value
    c.in_ok-head.ensures (c.as_str-in-None.ensures.value ∙ c.in_ok-front.ensures)
