use Rattle.std.proofs.Common.{Some, ap, refl}
use Rattle.command_words.specs.Commands.{marking_of}
use Rattle.command_words.proofs.values.mark_asked.Goals as goal

pub returns-in_err-name-clause-asked : goal.returns-in_err-name-clause-asked
returns-in_err-name-clause-asked c = rw (c.from_residual.ensures, ← c.in_err-name.ensures) refl

pub returns-clause-asked : goal.returns-clause-asked
returns-clause-asked c =
    rw (← c.in_ok-name.ensures, ← c.value-lesson.ensures) (ap (λ task. Some task) c.marking_of.ensures.asked)
