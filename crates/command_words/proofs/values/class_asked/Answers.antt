use Rattle.std.proofs.Common.{Some, ap, refl}
use Rattle.command_words.proofs.values.class_asked.Goals as goal

pub returns-in_err-list-clause-asked : goal.returns-in_err-list-clause-asked
returns-in_err-list-clause-asked c = rw (c.from_residual.ensures, ← c.in_err-list.ensures) refl

pub returns-clause-asked : goal.returns-clause-asked
returns-clause-asked c =
    rw (
      ← c.in_ok-list.ensures,
      ← c.in_ok-kind.ensures,
      ← c.value-lesson.ensures,
      ← c.is_set-wanted.ensures,
      ← c.goes_on-going_on.ensures,
    )
    (ap (λ task. Some task) c.classing_of.ensures.asked)
