use Rattle.std.proofs.Common.{Err, ap, ◌∙◌}
use Rattle.std.proofs.lemmas.Result.{err_from_is_err_and}
use Rattle.works.proofs.JoinedLemmas.{joined_by, refused_joining, shorter}
use Rattle.works.proofs.joining.of_texts.Goals as goal

pub returns-in_err-lesson : goal.returns-in_err-lesson
returns-in_err-lesson c = λ lessons bytes given file.
    let told = err_from_is_err_and c.from_residual.result c.from_residual.ensures.1 in
    refused_joining c.args.manner lessons bytes c.in_err-lesson.field-0.0
    c.from_residual.result (c.in_err-lesson.ensures.reads lessons (shorter c.args.given.now lessons given)) (told.1 ∙ ap Err told.2)

pub returns : goal.returns
returns c = λ lessons bytes given file.
    joined_by c.args.manner lessons bytes c.in_ok-lesson.lesson
    c.joined.result (c.in_ok-lesson.ensures.reads lessons (shorter c.args.given.now lessons given)) (c.joined.ensures bytes file)
