use Rattle.std.proofs.lemmas.Result.{err_from_is_err_and}
use Rattle.works.proofs.WithinLemmas.{unpriced}
use Rattle.works.proofs.weighing.sheet_of.Goals as goal

pub returns-in_err-priced : goal.returns-in_err-priced
returns-in_err-priced c = λ bytes content.
    let told = err_from_is_err_and c.from_residual.result c.from_residual.ensures.1 in
    rw (told.1, told.2) (unpriced bytes c.in_err-priced.field-0.0 (c.in_err-priced.ensures bytes content))

pub returns : goal.returns
returns c = λ bytes content. (c.in_ok-priced.ensures bytes content).0
