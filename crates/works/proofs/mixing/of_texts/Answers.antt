use Rattle.std.proofs.Common.{List, ℕ, Err, ap, ◌∙◌, subst}
use Rattle.std.proofs.lemmas.Result.{err_from_is_err_and}
use Rattle.fux_grid.specs.Exercises.{as_mixed}
use Rattle.works.specs.Mixed.{MakesOfMixed}
use Rattle.works.specs.Works.{Answers}
use Rattle.works.proofs.MixedLemmas.{made_of_mixed, refused_names, refused_sheet}
use Rattle.works.proofs.mixing.of_texts.Goals as goal

pub returns-in_err-species : goal.returns-in_err-species
returns-in_err-species g c = λ bytes sheets text weights.
    let told = err_from_is_err_and c.from_residual-in_err-species.result c.from_residual-in_err-species.ensures.1 in
    refused_names c.args.named.now c.args.job sheets bytes c.in_ok-exercise.exercise
    (c.in_ok-exercise.ensures.reads bytes text) c.in_err-species.field-0.0 c.from_residual-in_err-species.result
    c.in_err-species.ensures (told.1 ∙ ap Err told.2)

pub returns-in_err-sheet : goal.returns-in_err-sheet
returns-in_err-sheet g c = λ bytes sheets text weights.
    let told = err_from_is_err_and c.from_residual-in_err-sheet.result c.from_residual-in_err-sheet.ensures.1 in
    refused_sheet c.args.named.now c.args.job sheets bytes c.in_ok-exercise.exercise
    (c.in_ok-exercise.ensures.reads bytes text) c.in_ok-species.ensures.0 c.in_err-sheet.field-0.0
    c.from_residual-in_err-sheet.result (c.in_err-sheet.ensures sheets weights) (told.1 ∙ ap Err told.2)

pub returns : goal.returns
returns g c = λ bytes sheets text weights.
    let ex = c.in_ok-exercise.exercise in
    let sheet = c.in_ok-sheet.sheet in
    made_of_mixed c.args.named.now c.args.job sheets bytes ex (c.in_ok-exercise.ensures.reads bytes text)
    c.in_ok-species.ensures.0 sheet c.of_mixed.result (c.in_ok-sheet.ensures sheets weights)
    (subst (λ (species : List ℕ). Answers (MakesOfMixed c.args.job sheet ex (as_mixed ex species)) c.of_mixed.result)
    c.in_ok-species.ensures.1 c.of_mixed.ensures)
