use Rattle.std.proofs.Common.{Err, ap, ◌∙◌}
use Rattle.std.proofs.lemmas.Result.{err_from_is_err_and}
use Rattle.fux_port.specs.Promises.{Fails}
use Rattle.works.proofs.CertifyLemmas.{no_sheet, of_sheet}
use Rattle.works.proofs.certifying.certify_texts.Goals as goal

pub returns : goal.returns
returns g c = λ bytes sheets text weights.
    of_sheet c.args.budget c.args.form sheets bytes c.in_ok-exercise.exercise c.in_ok-sheet.sheet
    (Fails g.K.Sink.faults g.K.Sink.serves c.args.out.now c.certify.new.out) _ _ c.certify.result
    (c.in_ok-exercise.ensures.reads bytes text) (c.in_ok-sheet.ensures sheets weights) c.certify.ensures

pub returns-in_err-sheet : goal.returns-in_err-sheet
returns-in_err-sheet g c = λ bytes sheets text weights.
    let told = err_from_is_err_and c.from_residual-in_err-sheet.result c.from_residual-in_err-sheet.ensures.1 in
    no_sheet c.args.budget c.args.form sheets bytes c.in_ok-exercise.exercise c.in_err-sheet.field-0.0
    (Fails g.K.Sink.faults g.K.Sink.serves c.args.out.now c.args.out.now) _ c.from_residual-in_err-sheet.result
    (c.in_ok-exercise.ensures.reads bytes text) (c.in_err-sheet.ensures sheets weights) (told.1 ∙ ap Err told.2)
