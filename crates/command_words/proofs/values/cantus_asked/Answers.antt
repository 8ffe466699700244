use Rattle.std.proofs.Common.{Some, ap, refl}
use Rattle.command_words.proofs.values.cantus_asked.Goals as goal

pub returns-in_err-name-clause-asked : goal.returns-in_err-name-clause-asked
returns-in_err-name-clause-asked c = rw (c.from_residual.ensures, ← c.in_err-name.ensures) refl

pub returns-clause-asked : goal.returns-clause-asked
returns-clause-asked c =
    rw (← c.in_ok-name.ensures, ← c.value-sheet.ensures) (ap (λ task. Some task) c.cantus_of.ensures.asked)
