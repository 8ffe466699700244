use Rattle.std.proofs.Common.{Err, ap, ◌∙◌}
use Rattle.std.proofs.lemmas.Result.{err_from_is_err_and}
use Rattle.works.proofs.WithinLemmas.{answers_no_sheet, answers_of_sheet, unpriced}
use Rattle.works.proofs.making.of_texts.Goals as goal

pub returns-in_err-priced : goal.returns-in_err-priced
returns-in_err-priced g c = λ bytes sheets text weights.
    let told = err_from_is_err_and c.from_residual-in_err-priced.result c.from_residual-in_err-priced.ensures.1 in
    let stop = c.in_err-priced.field-0.0 in
    answers_no_sheet c.args.job sheets bytes c.in_ok-exercise.exercise stop c.from_residual-in_err-priced.result
    (c.in_ok-exercise.ensures.reads bytes text) (unpriced sheets stop (c.in_err-priced.ensures sheets weights))
    (told.1 ∙ ap Err told.2)

pub returns : goal.returns
returns g c = λ bytes sheets text weights.
    answers_of_sheet c.args.job sheets bytes c.in_ok-exercise.exercise c.in_ok-priced.priced c.of_exercise.result
    (c.in_ok-exercise.ensures.reads bytes text) (c.in_ok-priced.ensures sheets weights) c.of_exercise.ensures
