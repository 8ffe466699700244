use Rattle.std.proofs.Common.{Err, ap, ◌∙◌}
use Rattle.std.proofs.lemmas.Result.{IfOk-weaker, err_from_is_err_and}
use Rattle.works.specs.Checked.{IsUnreadable}
use Rattle.works.proofs.WithinLemmas.{check_no_sheet, check_of_sheet}
use Rattle.works.proofs.making.check_texts.Goals as goal

pub returns-clause-checks : goal.returns-clause-checks
returns-clause-checks g c = λ bytes sheets text weights.
    check_of_sheet (g.F.Shelf.files c.args.shelf.now) c.args.certificate.now
    (IsUnreadable g.F.Shelf.files g.F.Shelf.faults c.args.certificate.now c.args.shelf.now c.check.new.shelf)
    sheets bytes c.in_ok-exercise.exercise c.in_ok-sheet.sheet c.check.result
    (c.in_ok-exercise.ensures.reads bytes text) (c.in_ok-sheet.ensures sheets weights) c.check.ensures.checks

pub returns-in_err-sheet-clause-checks : goal.returns-in_err-sheet-clause-checks
returns-in_err-sheet-clause-checks g c = λ bytes sheets text weights.
    let told = err_from_is_err_and c.from_residual-in_err-sheet.result c.from_residual-in_err-sheet.ensures.1 in
    check_no_sheet (g.F.Shelf.files c.args.shelf.now) c.args.certificate.now
    (IsUnreadable g.F.Shelf.files g.F.Shelf.faults c.args.certificate.now c.args.shelf.now c.args.shelf.now)
    sheets bytes c.in_ok-exercise.exercise c.in_err-sheet.field-0.0 c.from_residual-in_err-sheet.result
    (c.in_ok-exercise.ensures.reads bytes text) (c.in_err-sheet.ensures sheets weights) (told.1 ∙ ap Err told.2)

pub returns-clause-near : goal.returns-clause-near
returns-clause-near g c = λ bytes sheets text weights.
    IfOk-weaker c.check.result _ _
    (λ output near. record {
      exercise = c.in_ok-exercise.exercise;
      is = c.in_ok-exercise.ensures.reads bytes text;
      sheet = c.in_ok-sheet.sheet;
      said = c.in_ok-sheet.ensures sheets weights;
      near = near;
    }) c.check.ensures.near
