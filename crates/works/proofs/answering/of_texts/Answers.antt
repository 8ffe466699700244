use Rattle.std.proofs.Common.{Err, ap, ◌∙◌}
use Rattle.std.proofs.lemmas.Result.{err_from_is_err_and}
use Rattle.works.proofs.AnsweredLemmas.{made_by, refused_lesson}
use Rattle.works.proofs.answering.of_texts.Goals as goal

pub returns-in_err-lesson : goal.returns-in_err-lesson
returns-in_err-lesson c = λ bytes lessons text given.
    let told = err_from_is_err_and c.from_residual-in_err-lesson.result c.from_residual-in_err-lesson.ensures.1 in
    refused_lesson lessons bytes c.in_ok-answer.answer (c.in_ok-answer.ensures.reads bytes text) c.in_err-lesson.field-0.0
    c.from_residual-in_err-lesson.result (c.in_err-lesson.ensures.reads lessons given) (told.1 ∙ ap Err told.2)

pub returns : goal.returns
returns c = λ bytes lessons text given.
    made_by lessons bytes c.in_ok-answer.answer (c.in_ok-answer.ensures.reads bytes text) c.in_ok-lesson.lesson
    c.mark_by.result (c.in_ok-lesson.ensures.reads lessons given) c.mark_by.ensures
