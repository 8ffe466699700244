use Rattle.std.proofs.Common.{refl}
use Rattle.command_words.proofs.values.explain_asked.Goals as goal

pub returns-in_err-name-clause-asked : goal.returns-in_err-name-clause-asked
returns-in_err-name-clause-asked c = rw (c.from_residual.ensures, ← c.in_err-name.ensures) refl

pub returns-in_err-subject-clause-asked : goal.returns-in_err-subject-clause-asked
returns-in_err-subject-clause-asked c =
    rw (
      c.from_residual-in_err-subject.ensures,
      ← c.in_ok-name.ensures,
      ← c.value-2.ensures,
      ← c.is_set.ensures,
      ← c.in_err-subject.ensures.value,
    ) refl

pub returns-clause-asked : goal.returns-clause-asked
returns-clause-asked c =
    rw (← c.in_ok-name.ensures, ← c.value-2.ensures, ← c.is_set.ensures, ← c.in_ok-subject.ensures.value) refl
